-- The fixed naming keeps handles apart.
use Rattle.std.proofs.Common.{◌≡◌, ℕ, ◌+◌, ap, arith}
use Rattle.std.proofs.lemmas.List.Elements.{All-contains}
use Rattle.backend_api.specs.declared.operation.QubitRef.{QubitRef}
use Rattle.backend_api.specs.declared.operation.QubitRef.TheVariants as qubit
use Rattle.backend_api.specs.declared.operation.ResultRef.{ResultRef}
use Rattle.backend_api.specs.declared.operation.ResultRef.TheVariants as result
use Rattle.ir_module.specs.declared.tree.Module.{Module}
use Rattle.qir_meaning.specs.Apart.{qubits_of_run, results_of_run, IsNamed, KeepsApart, QubitBelow, ResultBelow, StaysBelow}
use Rattle.qir_meaning.specs.Naming.{fixed_qubit, fixed_result, fixed_naming}

apart-qubits : (k : ℕ) (p q : QubitRef) → QubitBelow k p → QubitBelow k q → fixed_qubit k p ≡ fixed_qubit k q → p ≡ q
apart-qubits k (qubit.Id i) (qubit.Id j) a b e = e
apart-qubits k (qubit.Id i) (qubit.Alloc j) a b e = let s : i ≡ k + j = cc in absurd (omega (arith, a, s))
apart-qubits k (qubit.Alloc i) (qubit.Id j) a b e = let s : k + i ≡ j = cc in absurd (omega (arith, b, s))
apart-qubits k (qubit.Alloc i) (qubit.Alloc j) a b e = let s : k + i ≡ k + j = cc in ap qubit.Alloc (omega (arith, s))

apart-results : (r : ℕ) (p q : ResultRef) → ResultBelow r p → ResultBelow r q → fixed_result r p ≡ fixed_result r q → p ≡ q
apart-results r (result.Id i) (result.Id j) a b e = e
apart-results r (result.Id i) (result.Measured j) a b e = let s : i ≡ r + j = cc in absurd (omega (arith, a, s))
apart-results r (result.Measured i) (result.Id j) a b e = let s : r + i ≡ j = cc in absurd (omega (arith, b, s))
apart-results r (result.Measured i) (result.Measured j) a b e = let s : r + i ≡ r + j = cc in ap result.Measured (omega (arith, s))

module _ (m : Module) (k r : ℕ) (below : StaysBelow m k r) where
  qubit-below : (q : QubitRef) → IsNamed qubits_of_run m q → QubitBelow k q
  qubit-below q h = All-contains (QubitBelow k) (qubits_of_run h.events h.ending) q (below.qubits h.answers h.steps h.events h.records h.ending h.run) h.named

  result-below : (q : ResultRef) → IsNamed results_of_run m q → ResultBelow r q
  result-below q h = All-contains (ResultBelow r) (results_of_run h.events h.ending) q (below.results h.answers h.steps h.events h.records h.ending h.run) h.named

  pub keeps-apart : KeepsApart (fixed_naming k r) m
  keeps-apart = record {
    qubits = λ p q a b e. apart-qubits k p q (qubit-below p a) (qubit-below q b) e;
    results = λ p q a b e. apart-results r p q (result-below p a) (result-below q b) e;
  }
