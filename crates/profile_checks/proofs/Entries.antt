-- The entry of an admitted module, and the findings by it.
use Rattle.std.proofs.Common.{◌≡◌, ◌↔◌, ℕ, ◌<◌, Option, None, Some, List, [], ◌∷◌, length, slice_get, Contains, refl, sym, ap, ◌∙◌, subst, arith}
use Rattle.std.specs.Option.{option_map}
use Rattle.std.proofs.lemmas.Option.{slice_get_within}
use Rattle.ir_values.specs.declared.ids.FuncId.{FuncId}
use Rattle.ir_module.specs.declared.places.Place.{Place}
use Rattle.ir_module.specs.declared.places.Spot.{Spot}
use Rattle.ir_module.specs.declared.tree.Function.{Function}
use Rattle.ir_module.specs.declared.tree.Module.{Module}
use Rattle.ir_module.specs.Entry.{Entry, entry_of}
use Rattle.admission.specs.Admitted.{IsEntryOf}
use Rattle.profile_rules.specs.declared.finding.Finding.{Finding}
use Rattle.profile_rules.specs.Findings.{AreFindings}
use Rattle.profile_rules.proofs.Positions.{here}
use Rattle.finding_lines.specs.Lines.{HavePlaces}
use Rattle.profile_checks.specs.Checks.{of_entry}

within : (fs : List Function) (g : ℕ) (o : Option Entry) → option_map (λ e. e.number) o ≡ Some g → slice_get fs g ≡ option_map (λ e. e.function) o → g < length fs
within fs g None n f = cc
within fs g (Some e) n f = slice_get_within fs g e.function f

pub entry-within : (m : Module) (g : FuncId) → IsEntryOf m g → g.0 < length m.funcs
entry-within m g e = within m.funcs g.0 (entry_of m) e.number e.function

pub by-entry : (V : ℕ → Spot → ℕ → Type 0) (o : Option Entry) (g : ℕ) → option_map (λ e. e.number) o ≡ Some g → (fs : List Finding) → AreFindings (V g) fs → AreFindings (of_entry o V) fs
by-entry V None g n fs a = cc
by-entry V (Some e) g n fs a = let q : e.number ≡ g = cc in subst (λ k. AreFindings (V k) fs) (sym q) a

pub have-places : (V : ℕ → Spot → ℕ → Type 0) (o : Option Entry) (places : List (Spot × Place)) (fs : List Finding)
    → ((e : ℕ) → AreFindings (V e) fs → HavePlaces places fs) → AreFindings (of_entry o V) fs → HavePlaces places fs
have-places V None places [] law a = tt
have-places V None places (f ∷ fs) law a = absurd ((a.exact f.spot f.rule).0 (here f fs))
have-places V (Some e) places fs law a = law e.number a
