-- The worked residues are valid.
use Rattle.std.proofs.Common.{◌≡◌, true, false, refl, sym, subst}
use Rattle.ir_values.specs.Calls.{class_of}
use Rattle.kept_items.specs.declared.target.Caps.{Caps}
use Rattle.kept_items.specs.declared.target.Target.TheVariants as target
use Rattle.residue.specs.declared.parts.Residue.{Residue}
use Rattle.residue.specs.Valid.{Valid}
use Rattle.residue_tests.specs.Worked as spec

base_is_valid : Valid spec.base target.Base
unfolding class_of
base_is_valid = record { start = refl; jumps = refl; cases = refl; scopes = refl; allowed = refl; types = refl; operations = refl; outputs = refl; constants = refl; names = refl; calls = refl; labels = refl; numbers = refl; permits = refl; phases = refl }

pub base-valid : (r : Residue) → r ≡ spec.base → Valid r target.Base
base-valid r e = subst (λ r. Valid r target.Base) (sym e) base_is_valid

abbrev pub ints : Caps
ints = record { ints = true; switch = false; returns = false; loops = false }

abbrev pub each : Caps
each = record { ints = true; switch = true; returns = true; loops = true }

ints_are_enough : Valid spec.adaptive (target.Adaptive ints)
unfolding class_of
ints_are_enough = record { start = refl; jumps = refl; cases = refl; scopes = refl; allowed = refl; types = refl; operations = refl; outputs = refl; constants = refl; names = refl; calls = refl; labels = refl; numbers = refl; permits = refl; phases = refl }

pub ints-valid : (r : Residue) → r ≡ spec.adaptive → Valid r (target.Adaptive ints)
ints-valid r e = subst (λ r. Valid r (target.Adaptive ints)) (sym e) ints_are_enough

each_is_enough : Valid spec.adaptive (target.Adaptive each)
unfolding class_of
each_is_enough = record { start = refl; jumps = refl; cases = refl; scopes = refl; allowed = refl; types = refl; operations = refl; outputs = refl; constants = refl; names = refl; calls = refl; labels = refl; numbers = refl; permits = refl; phases = refl }

pub each-valid : (r : Residue) → r ≡ spec.adaptive → Valid r (target.Adaptive each)
each-valid r e = subst (λ r. Valid r (target.Adaptive each)) (sym e) each_is_enough

abbrev pub none : Caps
none = record { ints = false; switch = false; returns = false; loops = false }

plain_is_valid : Valid spec.plain (target.Adaptive none)
unfolding class_of
plain_is_valid = record { start = refl; jumps = refl; cases = refl; scopes = refl; allowed = refl; types = refl; operations = refl; outputs = refl; constants = refl; names = refl; calls = refl; labels = refl; numbers = refl; permits = refl; phases = refl }

pub plain-valid : (r : Residue) → r ≡ spec.plain → Valid r (target.Adaptive none)
plain-valid r e = subst (λ r. Valid r (target.Adaptive none)) (sym e) plain_is_valid

abbrev pub switched : Caps
switched = record none { switch = true }

switching_is_valid : Valid spec.switching (target.Adaptive switched)
unfolding class_of
switching_is_valid = record { start = refl; jumps = refl; cases = refl; scopes = refl; allowed = refl; types = refl; operations = refl; outputs = refl; constants = refl; names = refl; calls = refl; labels = refl; numbers = refl; permits = refl; phases = refl }

pub switching-valid : (r : Residue) → r ≡ spec.switching → Valid r (target.Adaptive switched)
switching-valid r e = subst (λ r. Valid r (target.Adaptive switched)) (sym e) switching_is_valid

abbrev pub returned : Caps
returned = record none { returns = true }

returning_is_valid : Valid spec.returning (target.Adaptive returned)
unfolding class_of
returning_is_valid = record { start = refl; jumps = refl; cases = refl; scopes = refl; allowed = refl; types = refl; operations = refl; outputs = refl; constants = refl; names = refl; calls = refl; labels = refl; numbers = refl; permits = refl; phases = refl }

pub returning-valid : (r : Residue) → r ≡ spec.returning → Valid r (target.Adaptive returned)
returning-valid r e = subst (λ r. Valid r (target.Adaptive returned)) (sym e) returning_is_valid

abbrev pub looped : Caps
looped = record none { loops = true }

looping_is_valid : Valid spec.looping (target.Adaptive looped)
unfolding class_of
looping_is_valid = record { start = refl; jumps = refl; cases = refl; scopes = refl; allowed = refl; types = refl; operations = refl; outputs = refl; constants = refl; names = refl; calls = refl; labels = refl; numbers = refl; permits = refl; phases = refl }

pub looping-valid : (r : Residue) → r ≡ spec.looping → Valid r (target.Adaptive looped)
looping-valid r e = subst (λ r. Valid r (target.Adaptive looped)) (sym e) looping_is_valid
