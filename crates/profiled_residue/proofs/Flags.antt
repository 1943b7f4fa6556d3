-- The flags of the printed module tell the capabilities of its target.
use Rattle.std.proofs.Common.{◌≡◌, ℕ, Bool, true, false, List, [], ◌++◌, Some, refl, ap, ◌∙◌}
use Rattle.std.specs.List.{find}
use Rattle.std.specs.Prelude.{if◌then◌else◌}
use Rattle.ir_module.specs.declared.tree.Flag.{Flag}
use Rattle.ir_values.specs.Calls.{same_text}
use Rattle.kept_items.specs.declared.target.Caps.{Caps}
use Rattle.kept_items.specs.declared.target.Target.TheVariants.{Adaptive}
use Rattle.profile_rules.specs.Adaptive.{backwards_key, integers_key, is_on, returns_key, switches_key, value_is_on}
use Rattle.profile_rules.specs.Calls.{passes}
use Rattle.profile_rules.specs.Shared as shared
use Rattle.residue.specs.declared.parts.Residue.{Residue}
use Rattle.residue.specs.Printed.{flag_of, flag_on, printed}

-- the first flag of the key is on
abbrev shows : List ℕ → List Flag → Bool
shows key flags = passes (shared.flag_of key flags) (λ a. value_is_on a.value)

-- a flag of another key tells nothing
skip : (on : Bool) (other key : List ℕ) (rest : List Flag) → same_text other key ≡ false → shows key (flag_on on other ++ rest) ≡ shows key rest
skip true other key rest e = ap (λ b. passes (if b then Some (flag_of 1 other 1 1) else find (λ (a : Flag). same_text a.key key) rest) (λ a. value_is_on a.value)) e
skip false other key rest e = refl

skip-last : (on : Bool) (other key : List ℕ) → same_text other key ≡ false → shows key (flag_on on other) ≡ false
skip-last true other key e = ap (λ b. passes (if b then Some (flag_of 1 other 1 1) else find (λ (a : Flag). same_text a.key key) []) (λ a. value_is_on a.value)) e
skip-last false other key e = refl

-- one of the key itself is there where it is on
met : (on : Bool) (key : List ℕ) (rest : List Flag) → same_text key key ≡ true → shows key rest ≡ false → shows key (flag_on on key ++ rest) ≡ on
met true key rest e h = ap (λ b. passes (if b then Some (flag_of 1 key 1 1) else find (λ (a : Flag). same_text a.key key) rest) (λ a. value_is_on a.value)) e
met false key rest e h = h

met-last : (on : Bool) (key : List ℕ) → same_text key key ≡ true → shows key (flag_on on key) ≡ on
met-last true key e = ap (λ b. passes (if b then Some (flag_of 1 key 1 1) else find (λ (a : Flag). same_text a.key key) []) (λ a. value_is_on a.value)) e
met-last false key e = refl

module _ (r : Residue) (caps : Caps) where
  abbrev behind_returns : List Flag
  behind_returns = flag_on caps.loops backwards_key

  abbrev behind_switches : List Flag
  behind_switches = flag_on caps.returns returns_key ++ behind_returns

  abbrev behind_integers : List Flag
  behind_integers = flag_on caps.switch switches_key ++ behind_switches

  pub integers-on : is_on integers_key (printed r (Adaptive caps)) ≡ caps.ints
  integers-on =
      met caps.ints integers_key behind_integers refl
      (skip caps.switch switches_key integers_key behind_switches refl ∙ skip caps.returns returns_key integers_key behind_returns refl ∙ skip-last caps.loops backwards_key integers_key refl)

  pub switches-on : is_on switches_key (printed r (Adaptive caps)) ≡ caps.switch
  switches-on =
      skip caps.ints integers_key switches_key behind_integers refl
      ∙ met caps.switch switches_key behind_switches refl (skip caps.returns returns_key switches_key behind_returns refl ∙ skip-last caps.loops backwards_key switches_key refl)

  pub returns-on : is_on returns_key (printed r (Adaptive caps)) ≡ caps.returns
  returns-on =
      skip caps.ints integers_key returns_key behind_integers refl
      ∙ skip caps.switch switches_key returns_key behind_switches refl
      ∙ met caps.returns returns_key behind_returns refl (skip-last caps.loops backwards_key returns_key refl)

  pub backwards-on : is_on backwards_key (printed r (Adaptive caps)) ≡ caps.loops
  backwards-on =
      skip caps.ints integers_key backwards_key behind_integers refl
      ∙ skip caps.switch switches_key backwards_key behind_switches refl
      ∙ skip caps.returns returns_key backwards_key behind_returns refl
      ∙ met-last caps.loops backwards_key refl
