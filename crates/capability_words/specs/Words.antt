-- The words that name capabilities of the Adaptive Profile.
use Rattle.std.specs.Prelude.{ℕ, ◌==◌, Bool, true, false, if◌then◌else◌, Option, None, Some, List, [], ◌∷◌, codes}
use Rattle.std.specs.List.{slice_split}
use Rattle.std.specs.Option.{option_and_then}
use Rattle.ir_values.specs.Calls.{same_text}
use Rattle.kept_items.specs.declared.target.Caps.{Caps}

abbrev pub no_caps : Caps
no_caps = record { ints = false; switch = false; returns = false; loops = false }

-- a capability that was not named before
abbrev pub if_new : Bool → Caps → Option Caps
if_new true caps = None
if_new false caps = Some caps

-- with the capability of this name
abbrev pub with_cap : List ℕ → Caps → Option Caps
with_cap name caps =
    if same_text name (codes "ints") then if_new caps.ints (record caps { ints = true })
    else (if same_text name (codes "switch") then if_new caps.switch (record caps { switch = true })
    else (if same_text name (codes "returns") then if_new caps.returns (record caps { returns = true })
    else (if same_text name (codes "loops") then if_new caps.loops (record caps { loops = true })
    else None)))

-- with the capabilities of all these names, one after the other
abbrev pub all_caps : List (List ℕ) → Caps → Option Caps
all_caps [] caps = Some caps
all_caps (name ∷ names) caps = option_and_then (all_caps names) (with_cap name caps)

abbrev pub comma : ℕ
comma = 44

-- the parts of a word between commas
abbrev pub names_of : List ℕ → List (List ℕ)
names_of word = slice_split (λ b. b == comma) word

-- the capabilities that a word names: `-` for none, or their names in any order with commas between, each at most once
abbrev pub caps_of : List ℕ → Option Caps
caps_of word = if same_text word (codes "-") then Some no_caps else all_caps (names_of word) no_caps
