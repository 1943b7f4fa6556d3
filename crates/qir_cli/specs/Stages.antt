-- A command looks at its input in stages. A stage is a relation: given one thing, it refuses it, or gives the next stage something.
-- What it comes to is an error where it refuses.
use Rattle.std.specs.Prelude.{◌≡◌, Result, Ok, Err}
use Rattle.qir_cli.specs.declared.refusal.Refusal.{Refusal}

-- The first of two stages that refuses, or what the second gives.
pub data Then {A B : Type 0} (first : Result A Refusal → Type 0) (second : A → Result B Refusal → Type 0)
    : Result B Refusal → Type 0 where
  refuses : (why : Refusal) → first (Err why) → Then first second (Err why)
  leads_on : (given : A) (end : Result B Refusal) → first (Ok given) → second given end → Then first second end

-- a stage that computes what it comes to
abbrev pub Is : {A : Type 0} → Result A Refusal → Result A Refusal → Type 0
Is what end = end ≡ what

-- it comes to at most one thing, and to at least one
abbrev pub AtMostOne : {A : Type 0} → (A → Type 0) → Type 0
AtMostOne {A} Holds = (x y : A) → Holds x → Holds y → x ≡ y

abbrev pub AtLeastOne : {A : Type 0} → (A → Type 0) → Type 0
AtLeastOne {A} Holds = (x : A) × Holds x
