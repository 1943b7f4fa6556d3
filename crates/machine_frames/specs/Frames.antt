-- What the frames of a machine are in a run, and what an instruction does to them.
use Rattle.std.specs.Prelude.{◌≡◌, ⊤, Option, List, [], ◌∷◌}
use Rattle.ir_values.specs.declared.ids.LocalId.{LocalId}
use Rattle.ir_values.specs.declared.value.Value.{Value}
use Rattle.machine_frames.specs.declared.flow.Flow.{Flow}
use Rattle.machine_frames.specs.declared.flow.Flow.TheVariants as flow
use Rattle.machine_frames.specs.declared.frames.Frames.{Frames}
use Rattle.machine_frames.specs.declared.frames.Waiting.{Waiting as Paused}
use Rattle.qir_meaning.specs.declared.end.End.{End}
use Rattle.qir_meaning.specs.declared.end.End.TheVariants as end
use Rattle.qir_meaning.specs.Runs.{RunEnd, Returned, Trapped, Asks, Cut}
use Rattle.qir_meaning.specs.State.{State, Move, next, bind}
use Rattle.qir_meaning.specs.code.Steps.{Waiting, Ended as Over, Jam, returned, Whole, Tick, On, Off, tick_of}

-- how a run ends; why an operation has no answer is the machine's
abbrev pub meant : End → RunEnd
meant (end.Returned code) = Returned code
meant (end.Trapped why) = Trapped why
meant (end.Asks op why) = Asks op
meant end.Cut = Cut

abbrev pub paused : Paused → Waiting
paused w = record { at = w.at; env = w.env; result = w.result }

-- in a run the frame that waits for the one that runs comes first
abbrev pub stacked : List Paused → List Waiting → List Waiting
stacked [] above = above
stacked (w ∷ ws) above = stacked ws (paused w ∷ above)

-- the frames of a run in this state
abbrev pub whole : Frames → State → Whole
whole f st = record { at = f.at; env = f.env; waits = stacked f.waiting []; state = st }

-- the next instruction
abbrev pub gone_on : Frames → Frames
gone_on f = record f { at = next f.at }

abbrev pub given : Frames → Option LocalId → Value → Frames
given f x v = record f { at = next f.at; env = bind f.env x v }

-- an end that is no want of an answer
abbrev pub IsOwn : End → Type 0
IsOwn (end.Returned code) = ⊤
IsOwn (end.Trapped why) = ⊤
IsOwn (end.Asks op why) = ⊥
IsOwn end.Cut = ⊤

-- an instruction that led to these frames and this state did what a run does
abbrev pub Leads : Frames → State → Flow → Tick → Type 0
Leads f st flow.Goes t = t ≡ On (whole f st)
Leads f st (flow.Ends e) t = IsOwn e × (t ≡ Off (Over (meant e) st))
Leads f st flow.Lost t = t ≡ Off Jam

-- it did what the move does, which changes no more than frames
abbrev pub Moves : Frames → Frames → Flow → (State → Move) → Type 0
Moves f now flow move = (st : State) → Leads now st flow (tick_of (whole f st) (move st))

-- the run is over with what the entry gave
abbrev pub Ended : Option Value → State → Flow → Type 0
Ended v st flow.Goes = ⊥
Ended v st (flow.Ends e) = IsOwn e × (returned v st ≡ Over (meant e) st)
Ended v st flow.Lost = returned v st ≡ Jam
