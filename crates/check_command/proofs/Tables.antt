-- The tables of cycles and of calls that lead back, by the tests on walks.
use Rattle.std.proofs.Common.{◌≡◌, ◌↔◌, ℕ, Bool, true, false, Option, None, Some, List, [], ◌∷◌, slice_get, sym, subst, true≢false}
use Rattle.ir_module.specs.declared.places.Point.{Point}
use Rattle.ir_module.specs.declared.tree.Function.{Function}
use Rattle.ir_module.specs.declared.tree.Module.{Module}
use Rattle.ir_module.specs.Steps.{Step, step_of_point}
use Rattle.graph_cycles.specs.Cycles.{IsOnCycle}
use Rattle.profile_rules.specs.Adaptive.{ReturnsFrom, block_graph, call_graph, number_called}
use Rattle.profile_rules.specs.code.Tables.{AreTables}
use Rattle.check_command.proofs.Reach.{leads, leads-exactly, reaches, reaches-exactly}

abbrev cyclic_in : Option Function → ℕ → Bool
cyclic_in None b = false
cyclic_in (Some f) b = leads (block_graph f) b b

abbrev leads_back : Module → ℕ → List ℕ → Bool
leads_back m f [] = false
leads_back m f (g ∷ gs) = reaches (call_graph m) g f

module _ (m : Module) where
  abbrev pub cyclic : Point → Bool
  cyclic p = cyclic_in (slice_get m.funcs p.func.0) p.block.0

  abbrev pub returning : Point → Step → Bool
  returning p s = leads_back m p.func.0 (number_called s)

  calls-exactly : (f : ℕ) (gs : List ℕ) → (leads_back m f gs ≡ true) ↔ ReturnsFrom m f gs
  calls-exactly f [] = ((λ e. absurd (true≢false (sym e))), (λ h. absurd h))
  calls-exactly f (g ∷ gs) = reaches-exactly (call_graph m) g f

  pub are-tables : AreTables m cyclic returning
  are-tables = record {
    loops = λ p f e. subst (λ o. (cyclic_in o p.block.0 ≡ true) ↔ IsOnCycle (block_graph f) p.block.0) (sym e) (leads-exactly (block_graph f) p.block.0 p.block.0);
    calls = λ p f e. calls-exactly p.func.0 (number_called (step_of_point f p));
  }
