-- The machine before the first instruction is that of a run.
use Rattle.std.proofs.Common.{◌≡◌, ◌∙◌, ℕ, ◌<◌, ◌≤◌, ◌^◌, ◌&&◌, true, List, [], length, refl, sym, ap, subst, arith}
use Rattle.std.proofs.lemmas.Bool.{and_parts, ltb-true}
use Rattle.std.proofs.lemmas.Option.{same_Some}
use Rattle.std.specs.Prelude.{Option, None, Some, IsSome, nat_lt, slice_get}
use Rattle.std.specs.Option.{option_map}
use Rattle.backend_api.specs.declared.operation.Answer.{Answer}
use Rattle.backend_api.specs.declared.operation.ResultRef.{ResultRef}
use Rattle.ir_module.specs.declared.tree.Function.{Function}
use Rattle.ir_module.specs.declared.tree.Module.{Module}
use Rattle.ir_module.specs.Entry.{Entry, entry_of}
use Rattle.ir_module.specs.Numbered.{Numbered}
use Rattle.ir_values.specs.declared.ids.FuncId.{FuncId}
use Rattle.machine_frames.specs.Frames.{whole}
use Rattle.machine_tables.specs.Allocated.{Allocated}
use Rattle.machine_tables.specs.code.Reads.{bit_at}
use Rattle.qir_machine.specs.declared.machine.Machine.{Machine}
use Rattle.qir_machine.specs.code.Machines.{Begins, state, whole_of}
use Rattle.qir_meaning.specs.code.Steps.{Whole, whole_start}
use Rattle.qir_meaning.specs.Moves.{first_point}
use Rattle.qir_meaning.specs.Runs.{start}
use Rattle.qir_meaning.specs.State.{State, frame}
use Rattle.typed_runs.proofs.Wholes.{entry-is}

-- an entry by its number
pub record Found (m : Module) (f : FuncId) : Type 0 where
  pub entry : Entry
  pub is_entry : entry_of m ≡ Some entry
  pub number : f ≡ record { 0 = entry.number }
  pub function : slice_get m.funcs f.0 ≡ Some entry.function

number-of : (f : FuncId) (n : ℕ) → f.0 ≡ n → f ≡ record { 0 = n }
number-of f n e = ap (λ i. let g : FuncId = record { 0 = i } in g) e

found-by : (m : Module) (f : FuncId) (o : Option Entry) → entry_of m ≡ o → Some f.0 ≡ option_map (λ (e : Entry). e.number) o → Found m f
found-by m f None e h = cc
found-by m f (Some entry) e h =
    let n = same_Some f.0 entry.number h in
    record {
      entry = entry;
      is_entry = e;
      number = number-of f entry.number n;
      function = ap (slice_get m.funcs) n ∙ (entry-is m entry e).0;
    }

pub found : (m : Module) (f : FuncId) → Some f.0 ≡ option_map (λ (e : Entry). e.number) (entry_of m) → Found m f
found m f h = found-by m f (entry_of m) refl h

none-by : (o : Option Entry) → IsSome o → None ≡ option_map (λ (e : Entry). e.number) o → ⊥
none-by None some h = cc
none-by (Some entry) some h = cc

pub there-is-one : (m : Module) → IsSome (entry_of m) → None ≡ option_map (λ (e : Entry). e.number) (entry_of m) → ⊥
there-is-one m some h = none-by (entry_of m) some h

pub few-functions : (m : Module) → Numbered m → length m.funcs ≤ 2 ^ 32
few-functions m numbered =
    let few = and_parts _ _ numbered.few in
    let funcs = and_parts _ _ few.1 in
    let lt = ltb-true (length m.funcs) (2 ^ 32) funcs.0 in
    omega arith

pub begins : (m : Module) (f : FuncId) (fn : Function) (s : Machine) → Found m f → slice_get m.funcs f.0 ≡ Some fn
    → ((st : State) → whole s.frames st ≡ record { at = first_point f; env = frame fn []; waits = []; state = st })
    → s.allocations ≡ record { count = 0; held = [] } → ((r : ResultRef) → bit_at s.results r ≡ None) → s.measured ≡ 0 → s.records ≡ [] → Begins m s
begins m f fn s h is frames none bits measured records = record {
  entry = h.entry;
  is_entry = h.is_entry;
  whole = λ a.
      frames (state s a [])
      ∙ ap (λ (g : FuncId). let w : Whole = record { at = first_point g; env = frame fn []; waits = []; state = state s a [] } in w) h.number
      ∙ ap (λ (g : Function). let w : Whole = record { at = first_point (record { 0 = h.entry.number }); env = frame g []; waits = []; state = state s a [] } in w) (same_Some fn h.entry.function (sym is ∙ h.function))
      ∙ ap (λ (st : State). let w : Whole = record { at = first_point (record { 0 = h.entry.number }); env = frame h.entry.function []; waits = []; state = st } in w) (fresh a);
  knows = bits;
  measured = measured;
}
  where
    fresh : (a : List Answer) → state s a [] ≡ start a
    fresh a =
        ap (λ (l : Allocated). let st : State = record { answers = a; bits = []; allocated = l.count; held = l.held; measured = s.measured; events = []; records = s.records } in st) none
        ∙ ap (λ n. let st : State = record { answers = a; bits = []; allocated = 0; held = []; measured = n; events = []; records = s.records } in st) measured
        ∙ ap (λ rs. let st : State = record { answers = a; bits = []; allocated = 0; held = []; measured = 0; events = []; records = rs } in st) records
