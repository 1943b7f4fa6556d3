-- The bits of results under the naming.
use Rattle.std.proofs.Common.{◌≡◌, ℕ, ◌+◌, Bool, true, false, Option, None, Some, List, [], ◌∷◌, map, refl, sym, ap, ◌∙◌, arith}
use Rattle.std.specs.Prelude.{◌==◌, ⊤, if◌then◌else◌}
use Rattle.backend_api.specs.declared.operation.Answer.{Answer}
use Rattle.backend_api.specs.declared.operation.Answer.TheVariants as answer
use Rattle.backend_api.specs.declared.operation.Arg.{Arg}
use Rattle.backend_api.specs.declared.operation.Op.{Op}
use Rattle.backend_api.specs.declared.operation.ResultRef.{ResultRef}
use Rattle.backend_api.specs.declared.operation.ResultRef.TheVariants as result
use Rattle.backend_api.specs.Operations.{same_result}
use Rattle.ir_values.specs.declared.ty.Ty.{Ty}
use Rattle.ir_values.specs.declared.ty.Ty.TheVariants as ty
use Rattle.ir_values.specs.declared.value.Value.TheVariants as value
use Rattle.ir_values.specs.Int.{IntValue}
use Rattle.qir_meaning.specs.Effects.{operation, first_result}
use Rattle.qir_meaning.specs.Naming.{fixed_naming}
use Rattle.qir_meaning.specs.State.{State, bit_in}
use Rattle.kept_items.specs.Items.{Did, Gave, Stopped, Senseless, arg_of, args_of, one_arg, valued, gate_did, measure_did, operation_did, issued}
use Rattle.printed_residue.specs.Places.{RefBelow, BitsBelow}
use Rattle.printed_residue.proofs.Calls.{ResultBelow, ResultsBelow}
use Rattle.residue.specs.Instructions.{Words}
use Rattle.kept_items.specs.declared.val.Val.{Val}
use Rattle.kept_items.specs.declared.val.Val.TheVariants.{Known, Dynamic}
use Rattle.printed_residue.proofs.Looks.{same-numbers, other-numbers, same-itself, differ}

module _ (ws : Words) where
  abbrev r : ℕ
  r = ws.results

  abbrev named : ResultRef → ResultRef
  named q = (fixed_naming ws.qubits ws.results).result q

  shifted : (i j : ℕ) → (r + i == r + j) ≡ (i == j)
  shifted i j = by-test (i == j) refl
    where
      by-test : (b : Bool) → (i == j) ≡ b → (r + i == r + j) ≡ (i == j)
      by-test true e = let q = same-numbers i j e in ap (λ n. r + i == r + n) (sym q) ∙ same-itself (r + i) ∙ sym e
      by-test false e = differ (r + i) (r + j) (λ q. absurd (other-numbers i j e (omega (arith, q)))) ∙ sym e

  same-named : (p q : ResultRef) → RefBelow r p → RefBelow r q → same_result (named p) (named q) ≡ same_result p q
  same-named (result.Id i) (result.Id j) a b = refl
  same-named (result.Id i) (result.Measured j) a b = differ i (r + j) (λ e. absurd (omega (arith, a, e)))
  same-named (result.Measured i) (result.Id j) a b = differ (r + i) j (λ e. absurd (omega (arith, b, e)))
  same-named (result.Measured i) (result.Measured j) a b = shifted i j

  -- a bit is found under the name of its result
  pub bit-named : (bits : List (ResultRef × Bool)) (q : ResultRef) → BitsBelow r bits → RefBelow r q → bit_in (map (λ b. (named b.0, b.1)) bits) (named q) ≡ bit_in bits q
  bit-named [] q a b = refl
  bit-named (c ∷ bits) q a b =
      ap (λ t. if t then Some c.1 else bit_in (map (λ b. (named b.0, b.1)) bits) (named q)) (same-named c.0 q a.0 b)
      ∙ ap (λ o. if same_result c.0 q then Some c.1 else o) (bit-named bits q a.1 b)

-- what an item leaves is below, where its own results are
abbrev pub GaveBelow : ℕ → Did → Type 0
GaveBelow r (Gave new st) = BitsBelow r st.bits
GaveBelow r (Stopped stop st) = ⊤
GaveBelow r Senseless = ⊤

module _ (r : ℕ) (ds : List IntValue) (st : State) (below : BitsBelow r st.bits) where
  abbrev FirstBelow : Option ResultRef → Type 0
  FirstBelow None = ⊤
  FirstBelow (Some q) = RefBelow r q

  abbrev ArgsBelow : Option (List Arg) → Type 0
  ArgsBelow None = ⊤
  ArgsBelow (Some args) = FirstBelow (first_result args)

  args-below : (args : List (Ty × Val)) → ResultsBelow r args → ArgsBelow (args_of ds st args)
  args-below [] h = tt
  args-below (a ∷ args) h = by-type a.0 a.1 (args_of ds st args) (args-below args h.1) h.0
    where
      by-type : (t : Ty) (a : Val) (o : Option (List Arg)) → ArgsBelow o → ResultBelow r t a → ArgsBelow (one_arg (arg_of t (valued ds a)) o)
      by-type ty.Res (Known (value.Id i)) None h k = tt
      by-type ty.Res (Known (value.Id i)) (Some args) h k = k
      by-type ty.Res (Known (value.Measured i)) None h k = tt
      by-type ty.Res (Known (value.Measured i)) (Some args) h k = tt
      by-type ty.Qubit (Known (value.Id i)) None h k = tt
      by-type ty.Qubit (Known (value.Id i)) (Some args) h k = h
      by-type ty.Qubit (Known (value.Alloc i)) None h k = tt
      by-type ty.Qubit (Known (value.Alloc i)) (Some args) h k = h
      by-type ty.Double (Known (value.Double d)) None h k = tt
      by-type ty.Double (Known (value.Double d)) (Some args) h k = h
      by-type (ty.Int w) (Known (value.Int i)) None h k = tt
      by-type (ty.Int w) (Known (value.Int i)) (Some args) h k = h
      by-type (ty.Int w) (Dynamic d) None h k = tt
      by-type (ty.Int w) (Dynamic d) (Some args) h k = h
      by-type t a o h k = tt

  gate-below : (op : Op) (ans : List Answer) → GaveBelow r (gate_did ds st op ans)
  gate-below op [] = tt
  gate-below op (answer.Done ∷ rest) = below
  gate-below op (answer.Bit b ∷ rest) = tt

  measure-below : (op : Op) (q : ResultRef) → RefBelow r q → (ans : List Answer) → GaveBelow r (measure_did ds st op q ans)
  measure-below op q h [] = tt
  measure-below op q h (answer.Done ∷ rest) = tt
  measure-below op q h (answer.Bit b ∷ rest) = (h, below)

  pub operation-below : (name : List ℕ) (args : List (Ty × Val)) → ResultsBelow r args → GaveBelow r (issued ds st name (args_of ds st args))
  operation-below name args h = by-args (args_of ds st args) (args-below args h)
    where
      by-first : (args : List Arg) (o : Option ResultRef) → FirstBelow o → GaveBelow r (operation_did ds st (operation name args) o)
      by-first args None h = gate-below (operation name args) st.answers
      by-first args (Some q) h = measure-below (operation name args) q h st.answers

      by-args : (o : Option (List Arg)) → ArgsBelow o → GaveBelow r (issued ds st name o)
      by-args None h = tt
      by-args (Some args) h = by-first args (first_result args) h
