-- What is seen of the operands of a step, and the rules that it keeps beside, tell the first rule that it breaks.
use Rattle.std.proofs.Common.{◌≡◌, ℕ, Bool, true, false, ◌&&◌, not, Option, None, Some, if◌then◌else◌, List, [], ◌∷◌, refl, sym, ap, ◌∙◌, arith}
use Rattle.std.proofs.lemmas.Bool.Decides.{nat_tests}
use Rattle.std.specs.List.{list_all}
use Rattle.std.specs.Prelude.{nat_lt, ◌==◌}
use Rattle.ir_values.specs.declared.ty.Ty.{Ty}
use Rattle.ir_values.specs.declared.ty.Ty.TheVariants as ty
use Rattle.ir_values.specs.declared.value.Value.TheVariants as value
use Rattle.ir_module.specs.declared.tree.Function.{Function}
use Rattle.ir_module.specs.declared.tree.Inst.{Inst}
use Rattle.ir_module.specs.declared.tree.Module.{Module}
use Rattle.ir_module.specs.declared.tree.Operand.{Operand}
use Rattle.ir_module.specs.declared.tree.Operand.TheVariants as operand
use Rattle.ir_module.specs.declared.tree.Phi.{Phi}
use Rattle.ir_module.specs.declared.tree.Term.{Term}
use Rattle.ir_module.specs.Edges.{edges}
use Rattle.ir_module.specs.Steps.{Step, PhiAt, InstAt, TermAt}
use Rattle.ir_module.specs.Tree.{blocks_of}
use Rattle.type_check.specs.declared.code.TypeCode.TheVariants as code
use Rattle.type_check.specs.declared.kept.Kept.{Kept}
use Rattle.type_check.specs.declared.required.Required.{Required}
use Rattle.type_check.specs.declared.seen.Seen.{Seen}
use Rattle.type_check.specs.code.Operands.{greater, greatest, nothing, both, seen_one, seen, seen_at}
use Rattle.type_check.specs.code.Walk.{kept_at, is_below, is_bounded, broken_by, numbers_kept, step_breaks}
use Rattle.type_check.specs.Required.{qubit_numbers, result_numbers}
use Rattle.type_check.specs.Rules.{types_agree, shape_agrees, sources, entries_match, entries_agree, entries_fit, is_first, keeps_first, cases_differ, number_below, numbers_below, operand_known, functions_known}
use Rattle.type_check.specs.Typing.{operand_has, all_have, wants}

and-true : (b : Bool) → (b && true) ≡ b
and-true true = refl
and-true false = refl

mix : (a b c d : Bool) → ((a && b) && (c && d)) ≡ ((a && c) && (b && d))
mix true true c d = refl
mix true false true d = refl
mix true false false d = refl
mix false b c d = refl

-- the greater of two numbers is below a bound where both are
below-greater : (k : ℕ) (a b : Option ℕ) → is_below k (greater a b) ≡ (is_below k a && is_below k b)
below-greater k None b = refl
below-greater k (Some m) None = sym (and-true (nat_lt m k))
below-greater k (Some m) (Some n) = grind (arith, nat_tests)

one-below : (k r : ℕ) (w : Ty × Operand) → (is_below k (greatest (qubit_numbers w)) && is_below r (greatest (result_numbers w))) ≡ number_below k r w
one-below k r (ty.Qubit, operand.Const (value.Id n)) = and-true (nat_lt n k)
one-below k r (ty.Res, operand.Const (value.Id n)) = refl
one-below k r w = refl

module _ (m : Module) (f : Function) where
  types-seen : (ws : List (Ty × Operand)) → (seen m f ws).types ≡ all_have m f ws
  unfolding both nothing seen_one
  types-seen [] = refl
  types-seen (w ∷ ws) = ap (λ b. operand_has m f w.1 w.0 && b) (types-seen ws)

  known-seen : (ws : List (Ty × Operand)) → (seen m f ws).known ≡ list_all (λ w. operand_known m w.1) ws
  unfolding both nothing seen_one
  known-seen [] = refl
  known-seen (w ∷ ws) = ap (λ b. operand_known m w.1 && b) (known-seen ws)

  below-seen : (k r : ℕ) (ws : List (Ty × Operand)) → (is_below k (seen m f ws).qubit && is_below r (seen m f ws).result) ≡ list_all (number_below k r) ws
  unfolding both nothing seen_one
  below-seen k r [] = refl
  below-seen k r (w ∷ ws) =
      (λ i. below-greater k (greatest (qubit_numbers w)) (seen m f ws).qubit i && below-greater r (greatest (result_numbers w)) (seen m f ws).result i)
      ∙ mix (is_below k (greatest (qubit_numbers w))) (is_below k (seen m f ws).qubit) (is_below r (greatest (result_numbers w))) (is_below r (seen m f ws).result)
      ∙ (λ i. one-below k r w i && below-seen k r ws i)

  bounded-seen : (k : Option Required) (s : Step) → is_bounded k (seen_at m f s) ≡ numbers_kept k f s
  unfolding numbers_below
  bounded-seen None s = refl
  bounded-seen (Some k) s = below-seen k.qubits k.results (wants f s)

  known-is : (s : Step) → (seen_at m f s).known ≡ functions_known m f s
  unfolding functions_known
  known-is s = known-seen (wants f s)

  pub types_are : (s : Step) (x : Seen) → x ≡ seen_at m f s → (x.types && shape_agrees f s) ≡ types_agree m f s
  unfolding types_agree
  types_are s x e = ap (λ y. y.types && shape_agrees f s) e ∙ ap (λ b. b && shape_agrees f s) (types-seen (wants f s))

  -- the same, by whether the operands have their types
  pub types_then : (s : Step) (x : Seen) (shape : Bool) → x ≡ seen_at m f s → shape ≡ shape_agrees f s → x.types ≡ true → shape ≡ types_agree m f s
  types_then s x shape e h t = sym (ap (λ b. b && shape) t) ∙ ap (λ b. x.types && b) h ∙ types_are s x e

  pub types_else : (s : Step) (x : Seen) → x ≡ seen_at m f s → x.types ≡ false → false ≡ types_agree m f s
  types_else s x e t = sym (ap (λ b. b && shape_agrees f s) t) ∙ types_are s x e

  broken-is : (k : Option Required) (b : ℕ) (s : Step) → broken_by k (kept_at m f b s) (seen_at m f s) ≡ step_breaks m k f b s
  unfolding broken_by kept_at step_breaks
  broken-is k b s =
      λ i. if types_agree m f s
      then (if entries_fit f (record { 0 = b }) s
      then (if keeps_first (record { 0 = b }) s
      then (if cases_differ s then (if bounded-seen k s i then (if known-is s i then None else Some code.UnknownDecl) else Some code.IdRange) else Some code.SwitchCase)
      else Some code.EntryBlock)
      else Some code.PhiEntries)
      else Some code.Types

  pub breaks_by : (k : Option Required) (b : ℕ) (s : Step) (r : Kept) (x : Seen) → r ≡ kept_at m f b s → x ≡ seen_at m f s → broken_by k r x ≡ step_breaks m k f b s
  breaks_by k b s r x e h = ap (λ y. broken_by k y x) e ∙ ap (broken_by k (kept_at m f b s)) h ∙ broken-is k b s

  -- ---- the rules that are kept, kind by kind

  pub phi_keeps : (b : ℕ) (phi : Phi) (types entries first : Bool) → types ≡ types_agree m f (PhiAt phi) → entries ≡ (entries_match (sources b 0 (blocks_of f)) phi.entries && entries_agree phi.entries) → first ≡ not (b == 0) → ◌≡◌ {A = Kept} (record { types = types; entries = entries; first = first; cases = true }) (kept_at m f b (PhiAt phi))
  unfolding kept_at entries_fit keeps_first cases_differ
  phi_keeps b phi types entries first t e h = λ i. record { types = t i; entries = e i; first = h i; cases = true }

  pub inst_keeps : (b : ℕ) (x : Inst) (types : Bool) → types ≡ types_agree m f (InstAt x) → ◌≡◌ {A = Kept} (record { types = types; entries = true; first = true; cases = true }) (kept_at m f b (InstAt x))
  unfolding kept_at entries_fit keeps_first cases_differ
  inst_keeps b x types t = λ i. record { types = t i; entries = true; first = true; cases = true }

  pub term_keeps : (b : ℕ) (x : Term) (types first cases : Bool) → types ≡ types_agree m f (TermAt x) → first ≡ list_all (λ to. not (is_first to)) (edges x) → cases ≡ cases_differ (TermAt x) → ◌≡◌ {A = Kept} (record { types = types; entries = true; first = first; cases = cases }) (kept_at m f b (TermAt x))
  unfolding kept_at entries_fit keeps_first
  term_keeps b x types first cases t h c = λ i. record { types = t i; entries = true; first = h i; cases = c i }
