-- The canonical text of a printable module is a sentence of the grammar, whose tree spells the module.
use Rattle.std.specs.Prelude.{slice_get}
use Rattle.std.specs.List.{list_all}
use Rattle.std.proofs.Common.{◌≡◌, ℕ, zero, suc, Bool, true, Option, None, Some, List, [], ◌∷◌, ◌++◌, map, refl, sym, subst, arith}
use Rattle.std.proofs.lemmas.Bool.{and_parts, and_from}
use Rattle.grammar.specs.Grammar.{has, rep}
use Rattle.grammar.specs.Language.{Derives}
use Rattle.ir_module.specs.Numbered.{are_distinct, global_names, local_names}
use Rattle.ir_module.specs.Printable.{IsPrintable, attr_fits}
use Rattle.ir_module.specs.declared.tree.Attr.{Attr}
use Rattle.ir_module.specs.declared.tree.Function.{Function}
use Rattle.ir_module.specs.declared.tree.Module.{Module}
use Rattle.ir_tokens.specs.Spelled.{spelling_at}
use Rattle.ir_tokens.specs.Tokens.{tokens}
use Rattle.ir_tokens.specs.declared.kind.Kind.TheVariants as kind
use Rattle.ir_tokens.specs.declared.token.Token.{Token}
use Rattle.ir_grammar.specs.Module.{item, module_text}
use Rattle.ir_grammar.specs.declared.tree.ItemSyntax.{ItemSyntax}
use Rattle.ir_names.specs.Module.{Names}
use Rattle.ir_parts.specs.Parts.{tokens_of, spellings_of}
use Rattle.ir_printer.specs.Canonical.{canonical, module_parts}
use Rattle.ir_printer.specs.Groups.{number_from, with_list, groups_from}
use Rattle.read_modules.proofs.Each.{Each}
use Rattle.canonical_names.proofs.FunctionParts.{FitFunction}
use Rattle.canonical_names.proofs.Printed.{groups_few, fit_function}
use Rattle.canonical_modules.proofs.Meant.{spelled_in, faultless, module_is}
use Rattle.canonical_modules.proofs.Texts.{tokens_read}
use Rattle.canonical_modules.proofs.Whole.{FitModule, items_build}

each_placed : {A : Type 0} (P : A → Type 0) (xs : List A) → ((k : ℕ) (x : A) → slice_get xs k ≡ Some x → P x) → Each P xs
each_placed P [] h = tt
each_placed P (x ∷ xs) h = (h zero x refl, each_placed P xs (λ k y e. h (suc k) y e))

abbrev all_attrs : List (List Attr) → Bool
all_attrs gs = list_all (λ g. list_all attr_fits g) gs

one_more : (gs : List (List Attr)) (attrs : List Attr) → all_attrs gs ≡ true → list_all attr_fits attrs ≡ true → all_attrs (gs ++ attrs ∷ []) ≡ true
one_more [] attrs h k = and_from (list_all attr_fits attrs) true k refl
one_more (g ∷ gs) attrs h k = let p = and_parts (list_all attr_fits g) (all_attrs gs) h in and_from (list_all attr_fits g) (all_attrs (gs ++ attrs ∷ [])) p.0 (one_more gs attrs p.1 k)

with_fits : (gs : List (List Attr)) (attrs : List Attr) (o : Option ℕ) → all_attrs gs ≡ true → list_all attr_fits attrs ≡ true → all_attrs (with_list gs attrs o) ≡ true
with_fits gs attrs (Some n) h k = h
with_fits gs [] None h k = h
with_fits gs (a ∷ attrs) None h k = one_more gs (a ∷ attrs) h k

groups_fit : (gs : List (List Attr)) (fs : List Function) → all_attrs gs ≡ true → list_all (λ f. list_all attr_fits f.attrs) fs ≡ true → all_attrs (groups_from gs fs) ≡ true
groups_fit gs [] h k = h
groups_fit gs (f ∷ fs) h k =
    let p = and_parts (list_all attr_fits f.attrs) (list_all (λ f. list_all attr_fits f.attrs) fs) k in
    groups_fit (with_list gs f.attrs (number_from 0 f.attrs gs)) fs (with_fits gs f.attrs (number_from 0 f.attrs gs) h p.0) p.1

fit_module : (m : Module) → IsPrintable m → FitModule m
fit_module m p = record {
  constants = p.constants;
  functions = each_placed (FitFunction m) m.funcs (fit_function m p);
  groups = groups_fit [] m.funcs refl p.attributes;
  few = let l = groups_few m p in omega arith;
  flags = p.flags;
  nodes = p.nodes;
}

-- a module text, and its end
ended : (ts us : List Token) (e : Token) (zs : List ItemSyntax) → ts ≡ us ++ e ∷ [] → e.kind ≡ kind.End → Derives (rep item) us zs → Derives module_text ts zs
unfolding module_text
ended ts us e zs i k d = ((zs, e), (us, e ∷ [], i, d, (refl, subst (λ k. has tokens (kind.End ∷ []) k ≡ true) (sym k) refl, refl)), refl)

pub spelled : (m : Module) → IsPrintable m → map (λ t. spelling_at (canonical m) t.place) (tokens_of (module_parts m)) ≡ spellings_of (module_parts m)
    → (items : List ItemSyntax) × Derives module_text (tokens_of (module_parts m)) items × Names (canonical m) items m
spelled m p h =
    let w = tokens_read (spelled_in (canonical m)) 0 (module_parts m) h in
    let x = (items_build (spelled_in (canonical m)) m (fit_module m p)).built w.0 w.3 in
    let distinct = (and_parts (are_distinct (global_names m)) (list_all (λ f. are_distinct (local_names f)) m.funcs) p.numbered.distinct).0 in
    (x.0, ended (tokens_of (module_parts m)) w.0 w.1 x.0 w.2 w.4 x.1, (faultless (canonical m) m distinct x.0 x.2, module_is (canonical m) m distinct x.0 x.2))
