-- The shots of a module without faults are one list, and so is what is told of them.
use Rattle.std.proofs.Common.{◌≡◌, ◌∙◌, ℕ, Bool, List, [], ◌∷◌, flat_map, refl, sym, ap}
use Rattle.std.specs.Prelude.{Some}
use Rattle.ir_module.specs.declared.tree.Module.{Module}
use Rattle.ir_module.specs.Entry.{Entry}
use Rattle.ir_module.specs.Numbered.{Numbered}
use Rattle.output_lines.specs.declared.last.Schema.{Schema}
use Rattle.output_lines.specs.Writing.{text_of}
use Rattle.run_commands.specs.Shots.{AreShots, IsRun, IsTrace, all_returned, run_lines, told_trace}
use Rattle.shots.specs.declared.backend.Backend.{Backend}
use Rattle.shots.specs.declared.backend.Backend.TheVariants.{Bits}
use Rattle.shots.specs.Laws.{ShotsAreOne, ShotsExist}
use Rattle.shots.specs.Shots.{IsShot, Shot}
use Rattle.type_check.specs.Faults.{Typed}

module _ (m : Module) (limit : ℕ) (numbered : Numbered m) (typed : Typed m limit) (n : ℕ) where
  one-shot : ShotsAreOne → (b : Backend) (x y : Shot) → IsShot b m n x → IsShot b m n y → x ≡ y
  unfolding ShotsAreOne
  one-shot law b x y p q = law m limit numbered typed b n x y p q

  some-shot : ShotsExist → (b : Backend) → (x : Shot) × IsShot b m n x
  unfolding ShotsExist
  some-shot law b = law m limit numbered typed b n

  one-list : ShotsAreOne → (bs : List Backend) (xs ys : List Shot) → AreShots bs m n xs → AreShots bs m n ys → xs ≡ ys
  one-list law [] [] [] a b = refl
  one-list law [] [] (y ∷ ys) a b = absurd b
  one-list law [] (x ∷ xs) ys a b = absurd a
  one-list law (c ∷ bs) [] ys a b = absurd a
  one-list law (c ∷ bs) (x ∷ xs) [] a b = absurd b
  one-list law (c ∷ bs) (x ∷ xs) (y ∷ ys) a b = ap (λ z. z ∷ xs) (one-shot law c x y a.0 b.0) ∙ ap (λ zs. y ∷ zs) (one-list law bs xs ys a.1 b.1)

  some-list : ShotsExist → (bs : List Backend) → (xs : List Shot) × AreShots bs m n xs
  some-list law [] = ([], tt)
  some-list law (b ∷ bs) = let x = some-shot law b in let xs = some-list law bs in (x.0 ∷ xs.0, (x.1, xs.1))

  same-entry : (d e : Entry) → Some d ≡ Some e → d ≡ e
  same-entry d e q = cc

  pub one-run : ShotsAreOne → (schema : Schema) (bs : List Backend) (x y : List ℕ) (a b : Bool) → IsRun schema bs m n x a → IsRun schema bs m n y b → (x ≡ y) × (a ≡ b)
  one-run law schema bs x y a b p q =
      let e : p.entry ≡ q.entry = same-entry p.entry q.entry (sym p.is_entry ∙ q.is_entry) in
      let s : p.shots ≡ q.shots = one-list law bs p.shots q.shots p.are q.are in (
        p.text_is ∙ ap (λ (d : Entry). text_of (run_lines schema m d.function p.shots)) e ∙ ap (λ ss. text_of (run_lines schema m q.entry.function ss)) s ∙ sym q.text_is,
        p.all_is ∙ ap all_returned s ∙ sym q.all_is,
      )

  pub one-trace : ShotsAreOne → (c : Backend) (x y : List ℕ) (a b : Bool) → IsTrace c m n x a → IsTrace c m n y b → (x ≡ y) × (a ≡ b)
  one-trace law c x y a b p q =
      let s : p.shots ≡ q.shots = one-list law (c ∷ []) p.shots q.shots p.are q.are in
      (p.text_is ∙ ap (λ ss. text_of (flat_map told_trace ss)) s ∙ sym q.text_is, p.all_is ∙ ap all_returned s ∙ sym q.all_is)

  -- the entry is that of any shot
  pub some-run : ShotsExist → (schema : Schema) (bs : List Backend) → (x : List ℕ) × (a : Bool) × IsRun schema bs m n x a
  some-run law schema bs =
      let runs = (some-shot law Bits).1.runs in
      let xs = some-list law bs in (
        text_of (run_lines schema m runs.entry.function xs.0),
        all_returned xs.0,
        record { entry = runs.entry; is_entry = runs.is_entry; shots = xs.0; are = xs.1; text_is = refl; all_is = refl },
      )

  pub some-trace : ShotsExist → (c : Backend) → (x : List ℕ) × (a : Bool) × IsTrace c m n x a
  some-trace law c =
      let xs = some-list law (c ∷ []) in
      (text_of (flat_map told_trace xs.0), all_returned xs.0, record { shots = xs.0; are = xs.1; text_is = refl; all_is = refl })
