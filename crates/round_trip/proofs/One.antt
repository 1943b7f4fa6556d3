-- A text spells one module at most.
use Rattle.std.proofs.Common.{◌≡◌, ℕ, Result, Ok, Err, List, refl, sym, ap, ◌∙◌}
use Rattle.ir_grammar.specs.declared.tree.ItemSyntax.{ItemSyntax}
use Rattle.ir_module.specs.declared.places.Place.{Place}
use Rattle.ir_module.specs.declared.tree.Module.{Module}
use Rattle.ir_names.specs.Module.{module_of}
use Rattle.ir_names.specs.Places.{places_of}
use Rattle.ir_reader.specs.Laws.{OneAnswer, Reads}
use Rattle.ir_reader.specs.Spelling.{Spells}
use Rattle.ir_reader.specs.declared.parsed.Parsed.{Parsed}
use Rattle.ir_reader.specs.declared.parsed.ReadCode.{ReadCode}
use Rattle.ir_syntax.specs.Texts.{HasTree, HasOneAnswer}
use Rattle.ir_syntax.specs.declared.fault.SyntaxFault.{SyntaxFault}

same_tree : (x y : List ItemSyntax) → ◌≡◌ {A = Result (List ItemSyntax) SyntaxFault} (Ok x) (Ok y) → x ≡ y
same_tree x y e = cc

pub one_tree : (text : List ℕ) → HasOneAnswer text → (x y : List ItemSyntax) → HasTree text x → HasTree text y → x ≡ y
one_tree text o x y h k = same_tree x y (o.2 (Ok x) h ∙ sym (o.2 (Ok y) k))

pub one_module : (text : List ℕ) → HasOneAnswer text → (m n : Module) → Spells m text → Spells n text → m ≡ n
one_module text o m n s t = s.2.1 ∙ (ap (module_of text) (one_tree text o s.0 t.0 s.1 t.1) ∙ sym t.2.1)

parsed_of : List ℕ → List ItemSyntax → Module → Parsed
parsed_of text items m = record { «module» = m; places = places_of text items }

apart : (p : Parsed) (why : ReadCode × Place) → ◌≡◌ {A = Result Parsed (ReadCode × Place)} (Err why) (Ok p) → ⊥
apart p why e = absurd (cc)

-- a text that spells a module is not refused
pub spelled_never_refused : OneAnswer → (text : List ℕ) (m : Module) → Spells m text → (why : ReadCode × Place) → Reads text (Err why) → ⊥
unfolding parsed_of
spelled_never_refused one text m s why r =
    let o = one text in
    let h : Reads text (Ok (parsed_of text s.0 m)) = (s, (s.0, s.1, refl)) in
    apart (parsed_of text s.0 m) why (o.2 (Err why) r ∙ sym (o.2 (Ok (parsed_of text s.0 m)) h))
