-- What is known of the functions and the steps of a printable module.
use Rattle.std.specs.Prelude.{◌&&◌, nat_lt, nat_le, slice_get}
use Rattle.std.specs.List.{list_all}
use Rattle.std.proofs.Common.{◌≡◌, ℕ, zero, suc, ◌^◌, Bool, true, Some, List, [], ◌∷◌, length, subst}
use Rattle.std.proofs.lemmas.Bool.{and_parts}
use Rattle.ir_module.specs.Numbered.{all_steps, flags_allowed, has_result, on_integers, step_in_range}
use Rattle.ir_module.specs.Printable.{IsPrintable, name_fits, names_fit, step_fits}
use Rattle.ir_module.specs.Steps.{Step, steps_of}
use Rattle.ir_module.specs.Tree.{blocks_of}
use Rattle.ir_module.specs.declared.tree.Function.{Function}
use Rattle.ir_module.specs.declared.tree.Module.{Module}
use Rattle.canonical_text.proofs.Facts.{all_weaker}
use Rattle.canonical_text.proofs.OperandsGood.{Known}
use Rattle.read_modules.proofs.Each.{Each}
use Rattle.canonical_syntax.proofs.Operands.{found_all}
use Rattle.canonical_syntax.proofs.Steps.{FitStep}

abbrev names : Function → Bool
names f = names_fit f && nat_lt f.params (2 ^ 32)

-- the names of a function
pub record Named (f : Function) : Type 0 where
  pub name : name_fits f.name ≡ true
  pub locals : list_all (λ l. name_fits l.0) f.locals ≡ true
  pub blocks : list_all (λ b. name_fits b.name) (blocks_of f) ≡ true

named : (f : Function) → names f ≡ true → Named f
named f h =
    let p = (and_parts (names_fit f) (nat_lt f.params (2 ^ 32)) h).0 in
    let q = and_parts (name_fits f.name) (list_all (λ l. name_fits l.0) f.locals && list_all (λ b. name_fits b.name) (blocks_of f)) p in
    let r = and_parts (list_all (λ l. name_fits l.0) f.locals) (list_all (λ b. name_fits b.name) (blocks_of f)) q.1 in
    record { name = q.0; locals = r.0; blocks = r.1 }

each_step : (m : Module) (f : Function) (ss : List Step) → list_all (step_fits f) ss ≡ true → list_all (step_in_range m f) ss ≡ true → list_all flags_allowed ss ≡ true → list_all on_integers ss ≡ true → list_all has_result ss ≡ true → Each (FitStep m f) ss
each_step m f [] a b c d e = tt
each_step m f (s ∷ ss) a b c d e =
    let p = and_parts (step_fits f s) (list_all (step_fits f) ss) a in
    let q = and_parts (step_in_range m f s) (list_all (step_in_range m f) ss) b in
    let r = and_parts (flags_allowed s) (list_all flags_allowed ss) c in
    let t = and_parts (on_integers s) (list_all on_integers ss) d in
    let u = and_parts (has_result s) (list_all has_result ss) e in
    (record { fits = p.0; in_range = q.0; flags = r.0; integers = t.0; named = u.0 }, each_step m f ss p.1 q.1 r.1 t.1 u.1)

module _ (m : Module) (p : IsPrintable m) (k : ℕ) (f : Function) (e : slice_get m.funcs k ≡ Some f) where
  pub names_of : Named f
  names_of = named f (found_all names m.funcs k f p.names e)

  pub known : Known m f
  known = record {
    constants = p.constants;
    functions = all_weaker names (λ g. name_fits g.name) m.funcs (λ g h. (named g h).name) p.names;
    locals = names_of.locals;
    blocks = names_of.blocks;
  }

  step_passes : (test : Function → Step → Bool) → all_steps test m ≡ true → list_all (test f) (steps_of f) ≡ true
  step_passes test h = found_all (λ f. list_all (test f) (steps_of f)) m.funcs k f h e

  pub steps_fit : Each (FitStep m f) (steps_of f)
  steps_fit =
      let ranges = (and_parts (list_all (λ f. nat_le f.params (length f.locals)) m.funcs) (all_steps (step_in_range m) m) p.numbered.in_range).1 in
      each_step m f (steps_of f) (step_passes step_fits p.steps) (step_passes (step_in_range m) ranges) (step_passes (λ f s. flags_allowed s) p.numbered.flags) (step_passes (λ f s. on_integers s) p.numbered.integers) (step_passes (λ f s. has_result s) p.numbered.named)

same_at : {A : Type 0} (P : A → Type 0) (y x : A) → P y → Some y ≡ Some x → P x
same_at P y x h e = let d : y ≡ x = cc in subst P d h

pub each_at : {A : Type 0} (P : A → Type 0) (xs : List A) (i : ℕ) (x : A) → Each P xs → slice_get xs i ≡ Some x → P x
each_at P [] i x h e = absurd (cc)
each_at P (y ∷ xs) zero x h e = same_at P y x h.0 e
each_at P (y ∷ xs) (suc i) x h e = each_at P xs i x h.1 e
