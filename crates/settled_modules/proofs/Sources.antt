-- Where a lowered module is admitted as a source.
use Rattle.std.proofs.Common.{◌≡◌, ◌∙◌, ℕ, ◌+◌, ◌^◌, ◌<◌, ◌≤◌, Bool, true, false, None, Some, refl, sym, ap, subst, arith}
use Rattle.std.proofs.lemmas.Bool.{and_parts}
use Rattle.std.proofs.lemmas.Fmt.{decimal_is_IsNumeral}
use Rattle.std.specs.Prelude.{◌↔◌, ◌&&◌, if◌then◌else◌, decimal, is_some, min, nat_le, unwrap_or}
use Rattle.ir_module.specs.declared.places.Spot.TheVariants as spot
use Rattle.ir_module.specs.declared.tree.Module.{Module}
use Rattle.ir_module.specs.Entry.{entry_of}
use Rattle.kept_items.specs.declared.target.Target.{Target}
use Rattle.printed_residue.proofs.Ends.{entry-is}
use Rattle.residue.specs.declared.parts.Residue.{Residue}
use Rattle.residue.specs.Printed.{printed}
use Rattle.sound_lowering.specs.Programs.{source_limit}
use Rattle.sound_lowering.specs.Sound.{lowered_limit}
use Rattle.type_check.specs.declared.code.TypeCode.TheVariants as code
use Rattle.type_check.specs.Faults.{Typed, keeps_rule}
use Rattle.type_check.specs.Required.{is_plain, one_above, plain_number, qubit_numbers, qubits_key, required_qubits, required_results, result_numbers, results_key, stated, written}
use Rattle.typed_residue.specs.Laws.{FitsLimit, PrintedIsTyped}
use Rattle.typed_residue.proofs.Numbers.{stated-number}
use Rattle.settled_modules.specs.Laws.{Fits, LoweredAreSources, LoweredFits, RequiresFew, SmallStaySources, residue_by}

-- a number that is stated is within the limit
stated-within : (limit n : ℕ) → n < 2 ^ 64 → is_some (plain_number limit (decimal n)) ≡ true → n ≤ limit
stated-within limit n small h = by (is_plain (decimal n)) (nat_le n limit) refl (sym (ap (λ k. is_some (if is_plain (decimal n) && nat_le k limit then Some k else None)) (decimal_is_IsNumeral n small).1) ∙ h)
  where
    by : (plain within : Bool) → nat_le n limit ≡ within → is_some (if plain && within then Some n else None) ≡ true → n ≤ limit
    by true true f h = grind (arith, f)
    by true false f h = cc
    by false w f h = cc

module _ (r : Residue) (t : Target) where
  abbrev l : Module
  l = printed r t

  module _ (limit : ℕ) (fits : FitsLimit r limit) where
    qubits-are : required_qubits l limit ≡ r.all_qubits
    unfolding required_qubits
    qubits-are =
        ap (λ o. unwrap_or o (min limit (one_above (written qubit_numbers l))))
        (ap (stated qubits_key limit) (entry-is r t) ∙ stated-number limit r.all_qubits fits.small_qubits fits.qubits)

    results-are : required_results l limit ≡ r.all_results
    unfolding required_results
    results-are =
        ap (λ o. unwrap_or o (min limit (one_above (written result_numbers l))))
        (ap (stated results_key limit) (entry-is r t) ∙ stated-number limit r.all_results fits.small_results fits.results)

  -- the entry of an admitted module states its numbers
  states : (limit : ℕ) → Typed l limit → keeps_rule l limit (spot.Func (record { 0 = 0 })) code.BadNumberAttr ≡ true
  states limit typed = by (keeps_rule l limit (spot.Func (record { 0 = 0 })) code.BadNumberAttr) refl
    where
      by : (b : Bool) → keeps_rule l limit (spot.Func (record { 0 = 0 })) code.BadNumberAttr ≡ b → b ≡ true
      by true e = refl
      by false e = absurd (typed (spot.Func (record { 0 = 0 })) code.BadNumberAttr e)

  stated-both : (limit : ℕ) → Typed l limit → (is_some (plain_number limit (decimal r.all_qubits)) && is_some (plain_number limit (decimal r.all_results))) ≡ true
  unfolding keeps_rule entry_of
  stated-both limit typed = states limit typed

  module _ (budget : ℕ) (fits : Fits budget r t) where
    limited : r.all_qubits ≤ source_limit → r.all_results ≤ source_limit → FitsLimit r source_limit
    limited a b = record {
      handles = fits.limited.handles;
      own_qubits = fits.limited.own_qubits;
      own_results = fits.limited.own_results;
      qubits = a;
      results = b;
      small_qubits = fits.limited.small_qubits;
      small_results = fits.limited.small_results;
    }

    -- the lowered program keeps within the limit of sources
    pub source-limited : Typed l source_limit → FitsLimit r source_limit
    source-limited typed =
        let p = and_parts (is_some (plain_number source_limit (decimal r.all_qubits))) (is_some (plain_number source_limit (decimal r.all_results))) (stated-both source_limit typed) in
        limited (stated-within source_limit r.all_qubits fits.limited.small_qubits p.0) (stated-within source_limit r.all_results fits.limited.small_results p.1)

    requires-few : Typed l source_limit → RequiresFew l
    requires-few typed =
        let f = source-limited typed in
        record {
          qubits = omega (arith, f.qubits, qubits-are lowered_limit fits.limited);
          results = omega (arith, f.results, results-are lowered_limit fits.limited);
        }

    few-typed : PrintedIsTyped → RequiresFew l → Typed l source_limit
    few-typed law few =
        law r t source_limit fits.valid
        (limited (omega (arith, few.qubits, qubits-are lowered_limit fits.limited)) (omega (arith, few.results, results-are lowered_limit fits.limited)))

    small-typed : PrintedIsTyped → r.own_qubits + budget ≤ source_limit → r.own_results + budget ≤ source_limit → Typed l source_limit
    small-typed law a b = law r t source_limit fits.valid (limited (omega (arith, a, fits.few_qubits)) (omega (arith, b, fits.few_results)))

pub are-sources : LoweredFits → PrintedIsTyped → LoweredAreSources
are-sources fit law m t budget k h =
    let r = residue_by m t budget k h.lowered in
    let fits = fit m t budget k h in
    subst (λ (n : Module). Typed n source_limit ↔ RequiresFew n) (sym h.lowered.is) (requires-few r t budget fits, few-typed r t budget fits law)

pub small-stay : LoweredFits → PrintedIsTyped → SmallStaySources
small-stay fit law m t budget k h a b =
    let r = residue_by m t budget k h.lowered in
    subst (λ (n : Module). Typed n source_limit) (sym h.lowered.is) (small-typed r t budget (fit m t budget k h) law a b)
