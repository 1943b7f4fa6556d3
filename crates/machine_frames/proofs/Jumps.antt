-- Edges, by the block that they lead to and what its phis take.
use Rattle.std.proofs.Common.{◌≡◌, ◌∙◌, List, length, Option, None, Some, sym, ap}
use Rattle.std.specs.Option.{option_map}
use Rattle.ir_module.specs.declared.places.Point.{Point}
use Rattle.ir_module.specs.declared.tree.Block.{Block}
use Rattle.ir_module.specs.declared.tree.Module.{Module}
use Rattle.ir_module.specs.declared.tree.Phi.{Phi}
use Rattle.ir_values.specs.declared.ids.BlockId.{BlockId}
use Rattle.ir_values.specs.declared.value.Value.{Value}
use Rattle.machine_frames.specs.code.Lists.{put_all, taken}
use Rattle.machine_frames.proofs.Phis.{phis-taken}
use Rattle.qir_meaning.specs.Moves.{arrives, block_in, jump, leads_to, phis_take}
use Rattle.qir_meaning.specs.State.{Env, State, Next, Stuck}

module _ (m : Module) (p : Point) (env : Env) (st : State) (to : BlockId) (b : Block) (is : block_in m p.func to ≡ Some b) (phis : List Phi) (all : phis ≡ b.phis) where
  arriving : (o : Option (List (Option Value))) → taken phis p.block env ≡ o → jump m p env st to ≡ arrives m p env st to b (option_map (λ vs. put_all phis vs env) o)
  arriving o e =
      ap (leads_to m p env st to) is
      ∙ ap (arrives m p env st to b) (ap (λ l. phis_take l p.block env env) (sym all) ∙ phis-taken phis p.block env env ∙ ap (option_map (λ vs. put_all phis vs env)) e)

  pub jump-stuck : taken phis p.block env ≡ None → jump m p env st to ≡ Stuck
  jump-stuck e = arriving None e

  pub jump-goes : (vs : List (Option Value)) (env' : Env) → taken phis p.block env ≡ Some vs → env' ≡ put_all phis vs env → jump m p env st to ≡ Next (record { func = p.func; block = to; index = length phis }) env' st
  jump-goes vs env' e h =
      arriving (Some vs) e
      ∙ ap (λ l. Next (record { func = p.func; block = to; index = length l }) (put_all phis vs env) st) (sym all)
      ∙ ap (λ n. Next (record { func = p.func; block = to; index = length phis }) n st) (sym h)
