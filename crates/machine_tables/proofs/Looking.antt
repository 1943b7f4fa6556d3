-- Arguments that are looked at one by one.
use Rattle.std.proofs.Common.{◌≡◌, ◌∙◌, List, [], ◌∷◌, ◌++◌, map, refl, sym, ap, append_assoc}
use Rattle.backend_api.specs.declared.operation.Arg.{Arg}
use Rattle.ir_module.specs.declared.tree.Operand.{Operand}
use Rattle.ir_values.specs.declared.ty.Ty.{Ty}
use Rattle.ir_values.specs.declared.value.Value.{Value}
use Rattle.machine_tables.specs.declared.arguments.Argument.{Argument}
use Rattle.machine_tables.specs.declared.arguments.Argument.TheVariants as one
use Rattle.machine_tables.specs.code.Reads.{argued_one}
use Rattle.qir_meaning.specs.Effects.{argument, arguments}
use Rattle.qir_meaning.specs.State.{State, Move}

-- the arguments of a run, behind those that were looked at
abbrev pub Ahead : (ts ts' : List (Ty × Operand)) (vs vs' : List Value) (done : List Arg) (st : State) → (List Arg → Move) → Type 0
Ahead ts ts' vs vs' done st go = arguments st (map (λ (a : Ty × Operand). a.0) ts) vs go ≡ arguments st (map (λ (a : Ty × Operand). a.0) ts') vs' (λ more. go (done ++ more))

module _ (t : Ty × Operand) (ts all : List (Ty × Operand)) (v : Value) (vs values : List Value) (done : List Arg) (st : State) (go : List Arg → Move) (ahead : Ahead all (t ∷ ts) values (v ∷ vs) done st go) where
  -- what is made of the next one
  pub next-argument : (a : Argument) → ((go : Arg → Move) → argument st t.0 v go ≡ argued_one a st go) → arguments st (map (λ (a : Ty × Operand). a.0) all) values go ≡ argued_one a st (λ a. arguments st (map (λ (a : Ty × Operand). a.0) ts) vs (λ args. go (done ++ a ∷ args)))
  next-argument a h = ahead ∙ h _

  pub one-further : (a : Arg) (done' : List Arg) → ((go : Arg → Move) → argument st t.0 v go ≡ go a) → done' ≡ done ++ a ∷ [] → Ahead all ts values vs done' st go
  one-further a done' h e =
      ahead ∙ h _
      ∙ ap (arguments st (map (λ (a : Ty × Operand). a.0) ts) vs) (λ i more. go (sym (append_assoc done (a ∷ []) more) i))
      ∙ ap (λ d. arguments st (map (λ (a : Ty × Operand). a.0) ts) vs (λ more. go (d ++ more))) (sym e)
