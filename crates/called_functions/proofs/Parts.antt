-- From part to part, and the table of a whole residue.
use Rattle.std.proofs.Common.{◌≡◌, ℕ, Bool, true, List, [], ◌∷◌, ◌++◌, sym, ap, ◌∙◌, subst}
use Rattle.std.proofs.lemmas.Bool.{and_parts}
use Rattle.std.proofs.lemmas.Grind.{flat_map-append}
use Rattle.std.proofs.lemmas.List.Folds.{list_all-append}
use Rattle.std.specs.List.{list_all}
use Rattle.std.specs.Prelude.{flat_map}
use Rattle.kept_items.specs.declared.item.Item.{Item}
use Rattle.residue.specs.declared.parts.Line.{Line}
use Rattle.residue.specs.declared.parts.Part.{Part}
use Rattle.residue.specs.declared.parts.Residue.{Residue}
use Rattle.residue.specs.Functions.{Called, calls_of, declared_of, first_uses, initialize}
use Rattle.residue.specs.Scopes.{items_of}
use Rattle.called_functions.specs.declared.table.Table.{Table}
use Rattle.called_functions.specs.code.Tables.{Declares, Lists, Marks, items_in, with_call}
use Rattle.called_functions.proofs.Names.{uses-append}

-- the table of some functions and of what the parts before these call; with these it comes to the whole
abbrev pub Goes : List (List ℕ) → Table → Table → List Part → List Part → Type 0
Goes keys old table parts whole =
    (irr : List (List ℕ)) (cs : List Called) → Marks irr keys → Lists irr cs old
    → (done : List Called) × Lists irr done table × (first_uses done (flat_map calls_of (items_in parts)) ≡ first_uses cs (flat_map calls_of (items_in whole)))

pub one-part : (keys : List (List ℕ)) (old mid new : Table) (all rest whole : List Part) (p : Part) (lines : List Line) → all ≡ p ∷ rest → lines ≡ p.lines
    → Declares keys mid new (λ cs. first_uses cs (flat_map calls_of (items_of lines))) → Goes keys old mid all whole → Goes keys old new rest whole
one-part keys old mid new all rest whole p lines e l d g irr cs marks lists =
    let h = g irr cs marks lists in
    let mine : List Called = flat_map calls_of (items_of lines) in (
      first_uses h.0 mine,
      d irr h.0 marks h.1,
      sym (uses-append h.0 mine (flat_map calls_of (items_in rest)))
          ∙ ap (λ ls. first_uses h.0 (flat_map calls_of (items_of ls) ++ flat_map calls_of (items_in rest))) l
          ∙ ap (first_uses h.0) (sym (flat_map-append calls_of (items_of p.lines) (items_in rest)))
          ∙ ap (λ ps. first_uses h.0 (flat_map calls_of (items_in ps))) (sym e)
          ∙ h.2,
    )

pub rest-few : (test : Item → Bool) (all rest : List Part) (p : Part) → all ≡ p ∷ rest → list_all test (items_in all) ≡ true → list_all test (items_in rest) ≡ true
rest-few test all rest p e h =
    (and_parts (list_all test (items_of p.lines)) (list_all test (items_in rest)) (sym (list_all-append test (items_of p.lines) (items_in rest)) ∙ ap (λ ps. list_all test (items_in ps)) (sym e) ∙ h)).1

pub table-whole : (r : Residue) (names keys : List (List ℕ)) (parts : List Part) (t0 t1 t2 : Table) → names ≡ r.irreversible → parts ≡ r.parts → Marks names keys
    → ((irr : List (List ℕ)) → Lists irr [] t0) → Declares keys t0 t1 (λ cs. with_call cs initialize) → Declares keys t1 t2 (λ cs. first_uses cs (flat_map calls_of (items_in parts)))
    → Lists r.irreversible (declared_of r) t2
table-whole r names keys parts t0 t1 t2 n p marks none first rest =
    let m : Marks r.irreversible keys = subst (λ ns. Marks ns keys) n marks in
    subst (λ ps. Lists r.irreversible (first_uses (initialize ∷ []) (flat_map calls_of (items_in ps))) t2) p (rest r.irreversible (initialize ∷ []) m (first r.irreversible [] m (none r.irreversible)))
