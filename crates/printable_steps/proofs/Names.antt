-- Names whose values pass a test, and the state within a step.
use Rattle.std.proofs.Common.{◌≡◌, ℕ, ◌+◌, Bool, true, false, ◌&&◌, not, Option, None, Some, List, [], ◌∷◌, refl, ap}
use Rattle.std.proofs.lemmas.Bool.{and_from, and_parts}
use Rattle.std.specs.List.{list_all}
use Rattle.std.specs.Prelude.{◌==◌, if◌then◌else◌, nat_lt}
use Rattle.ir_module.specs.declared.places.Point.{Point}
use Rattle.ir_module.specs.declared.tree.Operand.{Operand}
use Rattle.ir_module.specs.declared.tree.Operand.TheVariants as operand
use Rattle.ir_values.specs.declared.ids.LocalId.{LocalId}
use Rattle.ir_values.specs.declared.value.Value.{Value}
use Rattle.kept_items.specs.declared.val.Val.{Val}
use Rattle.kept_items.specs.declared.val.Val.TheVariants.{Known, Dynamic}
use Rattle.printed_residue.proofs.Rising.{filter-passes}
use Rattle.static_steps.specs.declared.config.Config.{Config}
use Rattle.static_steps.specs.declared.config.Frame.{Frame}
use Rattle.static_steps.specs.declared.work.Work.{Work}
use Rattle.static_steps.specs.declared.work.WorkFrame.{WorkFrame}
use Rattle.static_steps.specs.Settings.{move_to}
use Rattle.static_steps.specs.Values.{Names, drop_name, drop_result, is_dynamic, keep, look, numbered, one_val, put, put_result, put_some, shape, val_of, vals_of, with_number, without_number}
use Rattle.static_steps.specs.Works.{frame_dynamics, opened, opened_frames, shaped_frames}
use Rattle.printable_values.specs.Values.{val_prints, value_prints}
use Rattle.printable_steps.specs.Turns.{config_prints, frame_prints, known_prints}

-- ---- names with what is said of them

module _ {A : Type 0} (test : A → Bool) where
  abbrev pub all_pass : Names A → Bool
  all_pass ns = list_all (λ (e : LocalId × A). test e.1) ns

  pub put-passes : (x : LocalId) (a : A) (ns : Names A) → test a ≡ true → all_pass ns ≡ true → all_pass (put x a ns) ≡ true
  put-passes x a [] h g = ap (λ b. b && true) h
  put-passes x a (e ∷ es) h g =
      let p = and_parts (test e.1) (all_pass es) g in
      by (e.0.0 == x.0) (nat_lt x.0 e.0.0) p.0 p.1 (put-passes x a es h p.1)
    where
      by : (b c : Bool) → test e.1 ≡ true → list_all (λ (e : LocalId × A). test e.1) es ≡ true → list_all (λ (e : LocalId × A). test e.1) (put x a es) ≡ true
          → list_all (λ (e : LocalId × A). test e.1) (if b then (x, a) ∷ es else (if c then (x, a) ∷ e ∷ es else e ∷ put x a es)) ≡ true
      by true c i j k = and_from (test a) (list_all (λ (e : LocalId × A). test e.1) es) h j
      by false true i j k = and_from (test a) (test e.1 && list_all (λ (e : LocalId × A). test e.1) es) h (and_from (test e.1) (list_all (λ (e : LocalId × A). test e.1) es) i j)
      by false false i j k = and_from (test e.1) (list_all (λ (e : LocalId × A). test e.1) (put x a es)) i k

  pub drop-passes : (x : LocalId) (ns : Names A) → all_pass ns ≡ true → all_pass (drop_name x ns) ≡ true
  drop-passes x ns h = filter-passes (λ (e : LocalId × A). test e.1) (λ (e : LocalId × A). not (e.0.0 == x.0)) ns h

  pub keep-passes : (live : LocalId → Bool) (ns : Names A) → all_pass ns ≡ true → all_pass (keep live ns) ≡ true
  keep-passes live ns h = filter-passes (λ (e : LocalId × A). test e.1) (λ (e : LocalId × A). live e.0) ns h

  pub put-result-passes : (x : Option LocalId) (a : A) (ns : Names A) → test a ≡ true → all_pass ns ≡ true → all_pass (put_result x a ns) ≡ true
  put-result-passes None a ns h g = g
  put-result-passes (Some x) a ns h g = put-passes x a ns h g

  pub drop-result-passes : (x : Option LocalId) (ns : Names A) → all_pass ns ≡ true → all_pass (drop_result x ns) ≡ true
  drop-result-passes None ns h = h
  drop-result-passes (Some x) ns h = drop-passes x ns h

  abbrev pub some_passes : Option A → Bool
  some_passes None = true
  some_passes (Some a) = test a

  pub put-some-passes : (x : LocalId) (o : Option A) (ns : Names A) → some_passes o ≡ true → all_pass ns ≡ true → all_pass (put_some x o ns) ≡ true
  put-some-passes x None ns h g = drop-passes x ns g
  put-some-passes x (Some a) ns h g = put-passes x a ns h g

  pub look-passes : (x : LocalId) (ns : Names A) → all_pass ns ≡ true → some_passes (look x ns) ≡ true
  look-passes x [] h = refl
  look-passes x (e ∷ es) h =
      let p = and_parts (test e.1) (all_pass es) h in by (e.0.0 == x.0) p.0 (look-passes x es p.1)
    where
      by : (b : Bool) → test e.1 ≡ true → some_passes (look x es) ≡ true → some_passes (if b then Some e.1 else look x es) ≡ true
      by true i k = i
      by false i k = k

-- ---- operands

abbrev pub operand_prints : Operand → Bool
operand_prints (operand.Const v) = value_prints v
operand_prints (operand.Local x) = true

abbrev pub names_print : Names Val → Bool
names_print ns = all_pass val_prints ns

abbrev pub some_prints : Option Val → Bool
some_prints o = some_passes val_prints o

abbrev pub some_print : Option (List Val) → Bool
some_print None = true
some_print (Some vs) = list_all val_prints vs

pub val-prints : (ns : Names Val) (a : Operand) → names_print ns ≡ true → operand_prints a ≡ true → some_prints (val_of ns a) ≡ true
val-prints ns (operand.Const v) h g = g
val-prints ns (operand.Local x) h g = look-passes val_prints x ns h

pub vals-print : (ns : Names Val) (ops : List Operand) → names_print ns ≡ true → list_all operand_prints ops ≡ true → some_print (vals_of ns ops) ≡ true
vals-print ns [] h g = refl
vals-print ns (a ∷ ops) h g =
    let p = and_parts (operand_prints a) (list_all operand_prints ops) g in
    both (val_of ns a) (vals_of ns ops) (val-prints ns a h p.0) (vals-print ns ops h p.1)
  where
    both : (o : Option Val) (q : Option (List Val)) → some_passes val_prints o ≡ true → some_print q ≡ true → some_print (one_val o q) ≡ true
    both None q i k = refl
    both (Some a) None i k = refl
    both (Some a) (Some vs) i k = and_from (val_prints a) (list_all val_prints vs) i k

-- ---- the state within a step

abbrev pub work_frame_prints : WorkFrame → Bool
work_frame_prints f = names_print f.names

abbrev pub work_prints : Work → Bool
work_prints u = work_frame_prints u.top && list_all work_frame_prints u.below

-- a configuration is opened
numbered-print : (n : ℕ) (ns : Names (Option Value)) → all_pass known_prints ns ≡ true → names_print (numbered n ns) ≡ true
numbered-print n [] h = refl
numbered-print n (e ∷ es) h =
    let p = and_parts (known_prints e.1) (all_pass known_prints es) h in
    and_from (val_prints (with_number n e.1)) (names_print (numbered (n + is_dynamic e.1) es)) (cell e.1 p.0) (numbered-print (n + is_dynamic e.1) es p.1)
  where
    cell : (o : Option Value) → known_prints o ≡ true → val_prints (with_number n o) ≡ true
    cell None h = refl
    cell (Some v) h = h

opened-frames-print : (fs : List Frame) → list_all frame_prints fs ≡ true → list_all work_frame_prints (opened_frames fs) ≡ true
opened-frames-print [] h = refl
opened-frames-print (f ∷ fs) h =
    let p = and_parts (frame_prints f) (list_all frame_prints fs) h in
    and_from (names_print (numbered (frame_dynamics fs) f.names)) (list_all work_frame_prints (opened_frames fs)) (numbered-print (frame_dynamics fs) f.names p.0) (opened-frames-print fs p.1)

pub opened-prints : (g : Config) → config_prints g ≡ true → work_prints (opened g) ≡ true
opened-prints g h =
    let p = and_parts (frame_prints g.top) (list_all frame_prints g.below) h in
    and_from (names_print (numbered (frame_dynamics g.below) g.top.names)) (list_all work_frame_prints (opened_frames g.below)) (numbered-print (frame_dynamics g.below) g.top.names p.0) (opened-frames-print g.below p.1)

-- and packed again
shape-prints : (ns : Names Val) → names_print ns ≡ true → all_pass known_prints (shape ns) ≡ true
shape-prints [] h = refl
shape-prints (e ∷ es) h =
    let p = and_parts (val_prints e.1) (names_print es) h in
    and_from (known_prints (without_number e.1)) (all_pass known_prints (shape es)) (cell e.1 p.0) (shape-prints es p.1)
  where
    cell : (a : Val) → val_prints a ≡ true → known_prints (without_number a) ≡ true
    cell (Known v) h = h
    cell (Dynamic d) h = refl

shaped-frames-print : (fs : List WorkFrame) → list_all work_frame_prints fs ≡ true → list_all frame_prints (shaped_frames fs) ≡ true
shaped-frames-print [] h = refl
shaped-frames-print (f ∷ fs) h =
    let p = and_parts (work_frame_prints f) (list_all work_frame_prints fs) h in
    and_from (all_pass known_prints (shape f.names)) (list_all frame_prints (shaped_frames fs)) (shape-prints f.names p.0) (shaped-frames-print fs p.1)

pub move-prints : (live : Point → LocalId → Bool) (u : Work) → work_prints u ≡ true → config_prints (move_to live u).to ≡ true
move-prints live u h =
    let p = and_parts (work_frame_prints u.top) (list_all work_frame_prints u.below) h in
    and_from (all_pass known_prints (shape (keep (live u.top.at) u.top.names))) (list_all frame_prints (shaped_frames u.below))
    (shape-prints (keep (live u.top.at) u.top.names) (keep-passes val_prints (live u.top.at) u.top.names p.0)) (shaped-frames-print u.below p.1)
