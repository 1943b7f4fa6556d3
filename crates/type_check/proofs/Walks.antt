-- The search along the tree is that along the spots, so what it finds is the first fault.
use Rattle.std.proofs.Common.{◌≡◌, ⊎_elim, ℕ, zero, suc, ◌+◌, ◌-◌, ◌<◌, ◌≤◌, Bool, true, false, ◌&&◌, not, cond, Option, None, Some, is_none, List, [], ◌∷◌, ◌++◌, length, map, slice_get, refl, sym, ap, ◌∙◌, subst, arith}
use Rattle.std.proofs.lemmas.Option.{slice_get_cases}
use Rattle.std.specs.Option.{option_or}
use Rattle.std.specs.Prelude.{MatchOption}
use Rattle.ir_module.specs.declared.places.Spot.{Spot}
use Rattle.ir_module.specs.declared.places.Spot.TheVariants as spot
use Rattle.ir_module.specs.declared.tree.Block.{Block}
use Rattle.ir_module.specs.declared.tree.Function.{Function}
use Rattle.ir_module.specs.declared.tree.Module.{Module}
use Rattle.ir_module.specs.Spots.{point_at, points_from, block_spots, blocks_spots, function_spots, functions_spots, spots}
use Rattle.ir_module.specs.Steps.{Step, PhiAt, InstAt, TermAt, step_at, step_of_point, steps_of_block}
use Rattle.ir_module.specs.Tree.{block_at, blocks_or_none, blocks_of}
use Rattle.type_check.specs.declared.code.TypeCode.{TypeCode}
use Rattle.type_check.specs.declared.code.TypeCode.TheVariants as code
use Rattle.type_check.specs.declared.required.Required.{Required}
use Rattle.type_check.specs.code.Search.{broken, first_at, first_in, other_rules, or_else, entry_fault, first_fault}
use Rattle.type_check.specs.code.Walk.{step_breaks, numbers_kept, steps_fault, blocks_fault, function_breaks, function_fault, functions_fault, module_fault, required_of}
use Rattle.type_check.specs.Faults.{Typed, IsFirstFault, keeps_rule}
use Rattle.type_check.specs.Rules.{types_agree, entries_fit, keeps_first, cases_differ, functions_known, body_has_own_name, constants_have_own_names}
use Rattle.type_check.proofs.Facts.{step-here, inst-at, phi-at, term-at}
use Rattle.type_check.proofs.First.{typed, first}

-- ---- the steps of a block in a row

get-left : {A : Type 0} (xs ys : List A) (i : ℕ) (x : A) → slice_get xs i ≡ Some x → slice_get (xs ++ ys) i ≡ Some x
get-left [] ys i x e = cc
get-left (y ∷ xs) ys zero x e = e
get-left (y ∷ xs) ys (suc i) x e = get-left xs ys i x e

get-right : {A : Type 0} (xs ys : List A) (i : ℕ) → length xs ≤ i → slice_get (xs ++ ys) i ≡ slice_get ys (i - length xs)
get-right [] ys i le = let e : i ≡ i - 0 = omega arith in ap (slice_get ys) e
get-right (y ∷ xs) ys zero le = absurd (omega (arith, le))
get-right (y ∷ xs) ys (suc i) le = let e : i - length xs ≡ suc i - length (y ∷ xs) = omega arith in get-right xs ys i (omega (arith, le)) ∙ ap (slice_get ys) e

get-map : {A B : Type 0} (f : A → B) (xs : List A) (i : ℕ) (x : A) → slice_get xs i ≡ Some x → slice_get (map f xs) i ≡ Some (f x)
get-map f [] i x e = cc
get-map f (y ∷ xs) zero x e = let q : y ≡ x = cc in ap (λ z. Some (f z)) q
get-map f (y ∷ xs) (suc i) x e = get-map f xs i x e

length-of-map : {A B : Type 0} (f : A → B) (xs : List A) → length (map f xs) ≡ length xs
length-of-map f [] = refl
length-of-map f (x ∷ xs) = ap suc (length-of-map f xs)

length-both : {A : Type 0} (xs ys : List A) → length (xs ++ ys) ≡ length xs + length ys
length-both [] ys = omega arith
length-both (x ∷ xs) ys = let h = length-both xs ys in omega (arith, h)

within : {A : Type 0} (xs : List A) (j : ℕ) (x : A) → slice_get xs j ≡ Some x → j < length xs
within [] j x e = cc
within (y ∷ xs) zero x e = omega arith
within (y ∷ xs) (suc j) x e = let h = within xs j x e in omega (arith, h)

some-same : {A : Type 0} (x y : A) → ◌≡◌ {A = Option A} (Some x) (Some y) → x ≡ y
some-same x y e = cc

module _ (c : Block) where
  steps-length : length (steps_of_block c) ≡ suc (length c.phis + length c.insts)
  steps-length =
      let a = length-both (map PhiAt c.phis) (map InstAt c.insts ++ (TermAt c.term ∷ [])) in
      let b = length-both (map InstAt c.insts) (TermAt c.term ∷ []) in
      let p = length-of-map PhiAt c.phis in
      let i = length-of-map InstAt c.insts in
      omega (arith, a, b, p, i)

  behind-phis : (i : ℕ) → length c.phis ≤ i → slice_get (steps_of_block c) i ≡ slice_get (map InstAt c.insts ++ (TermAt c.term ∷ [])) (i - length c.phis)
  behind-phis i le =
      let p = length-of-map PhiAt c.phis in
      get-right (map PhiAt c.phis) (map InstAt c.insts ++ (TermAt c.term ∷ [])) i (omega (arith, le, p)) ∙ ap (λ n. slice_get (map InstAt c.insts ++ (TermAt c.term ∷ [])) (i - n)) p

  at-term : (i : ℕ) → i ≡ length c.phis + length c.insts → slice_get (steps_of_block c) i ≡ Some (step_at c i)
  at-term i e =
      let l = length-of-map InstAt c.insts in
      let z : i - length c.phis - length (map InstAt c.insts) ≡ 0 = omega (arith, e, l) in
      behind-phis i (omega (arith, e))
      ∙ get-right (map InstAt c.insts) (TermAt c.term ∷ []) (i - length c.phis) (omega (arith, e, l))
      ∙ ap (slice_get (TermAt c.term ∷ [])) z
      ∙ ap Some (sym (term-at c i (omega (arith, e)) e))

  step-is : (i : ℕ) → i ≤ length c.phis + length c.insts → slice_get (steps_of_block c) i ≡ Some (step_at c i)
  step-is i le =
      ⊎_elim
      (λ q. get-left (map PhiAt c.phis) (map InstAt c.insts ++ (TermAt c.term ∷ [])) i (PhiAt q.0) (get-map PhiAt c.phis i q.0 q.2) ∙ ap Some (sym (phi-at c i q.0 q.2)))
      (λ q.
      ⊎_elim
      (λ x.
      behind-phis i q.0
      ∙ get-left (map InstAt c.insts) (TermAt c.term ∷ []) (i - length c.phis) (InstAt x.0) (get-map InstAt c.insts (i - length c.phis) x.0 x.2)
      ∙ ap Some (sym (inst-at c i q.0 x.0 x.2)))
      (λ x. at-term i (omega (arith, q.0, x.0, le)))
      (slice_get_cases c.insts (i - length c.phis)).1)
      (slice_get_cases c.phis i).1

-- ---- searches

or-else-first : (s : Spot) (o : Option TypeCode) (a b : Option (Spot × TypeCode)) → first_at s o (or_else a b) ≡ or_else (first_at s o a) b
or-else-first s None a b = refl
or-else-first s (Some c) a b = refl

module _ (m : Module) (k : Option Required) (g : ℕ) (f : Function) (b : ℕ) where
  steps-both : (i n : ℕ) (xs ys : List Step) → n ≡ i + length xs → steps_fault m k g f b i (xs ++ ys) ≡ or_else (steps_fault m k g f b i xs) (steps_fault m k g f b n ys)
  steps-both i n [] ys e = let e' : i ≡ n = omega (arith, e) in ap (λ j. steps_fault m k g f b j ys) e'
  steps-both i n (x ∷ xs) ys e =
      ap (first_at (spot.At (point_at g b i)) (step_breaks m k f b x)) (steps-both (i + 1) n xs ys (omega (arith, e)))
      ∙ or-else-first (spot.At (point_at g b i)) (step_breaks m k f b x) (steps_fault m k g f b (i + 1) xs) (steps_fault m k g f b n ys)

  -- the phis of a block, then its instructions, then its terminator
  pub block_parts : (c : Block) → steps_fault m k g f b 0 (steps_of_block c) ≡ or_else (steps_fault m k g f b 0 (map PhiAt c.phis)) (or_else (steps_fault m k g f b (length c.phis) (map InstAt c.insts)) (steps_fault m k g f b (length c.phis + length c.insts) (TermAt c.term ∷ [])))
  block_parts c =
      let p = length-of-map PhiAt c.phis in
      let i = length-of-map InstAt c.insts in
      steps-both 0 (length c.phis) (map PhiAt c.phis) (map InstAt c.insts ++ (TermAt c.term ∷ [])) (omega (arith, p))
      ∙ ap (or_else (steps_fault m k g f b 0 (map PhiAt c.phis))) (steps-both (length c.phis) (length c.phis + length c.insts) (map InstAt c.insts) (TermAt c.term ∷ []) (omega (arith, i)))

-- the rules one after another
chosen : (t p q c n u : Bool)
    → cond (not t) (Some code.Types) (cond (not p) (Some code.PhiEntries) (cond (not q) (Some code.EntryBlock) (cond (not c) (Some code.SwitchCase) (cond (not n) (Some code.IdRange) (cond (not u) (Some code.UnknownDecl) None)))))
    ≡ cond t (cond p (cond q (cond c (cond n (cond u None (Some code.UnknownDecl)) (Some code.IdRange)) (Some code.SwitchCase)) (Some code.EntryBlock)) (Some code.PhiEntries)) (Some code.Types)
chosen true true true true true true = refl
chosen true true true true true false = refl
chosen true true true true false u = refl
chosen true true true false n u = refl
chosen true true false c n u = refl
chosen true false q c n u = refl
chosen false p q c n u = refl

chosen-few : (t p q c u : Bool)
    → cond (not t) (Some code.Types) (cond (not p) (Some code.PhiEntries) (cond (not q) (Some code.EntryBlock) (cond (not c) (Some code.SwitchCase) (cond (not u) (Some code.UnknownDecl) None))))
    ≡ cond t (cond p (cond q (cond c (cond u None (Some code.UnknownDecl)) (Some code.SwitchCase)) (Some code.EntryBlock)) (Some code.PhiEntries)) (Some code.Types)
chosen-few true true true true true = refl
chosen-few true true true true false = refl
chosen-few true true true false u = refl
chosen-few true true false c u = refl
chosen-few true false q c u = refl
chosen-few false p q c u = refl

chosen-name : (b : Bool) → cond (not b) (Some code.ReservedName) None ≡ cond b None (Some code.ReservedName)
chosen-name true = refl
chosen-name false = refl

module _ (m : Module) (limit : ℕ) where
  step-broken : (flag : Bool) (g : ℕ) (f : Function) (b i : ℕ) (s : Step) → slice_get m.funcs g ≡ Some f → step_of_point f (point_at g b i) ≡ s → broken m limit (other_rules flag) (spot.At (point_at g b i)) ≡ step_breaks m (required_of m limit flag) f b s
  unfolding keeps_rule step_breaks
  step-broken true g f b i s is e =
      rw (is, e) (chosen (types_agree m f s) (entries_fit f (record { 0 = b }) s) (keeps_first (record { 0 = b }) s) (cases_differ s) (numbers_kept (required_of m limit true) f s) (functions_known m f s))
  step-broken false g f b i s is e =
      rw (is, e) (chosen-few (types_agree m f s) (entries_fit f (record { 0 = b }) s) (keeps_first (record { 0 = b }) s) (cases_differ s) (functions_known m f s))

  function-broken : (flag : Bool) (g : ℕ) (f : Function) → slice_get m.funcs g ≡ Some f → broken m limit (other_rules flag) (spot.Func (record { 0 = g })) ≡ function_breaks f
  unfolding keeps_rule
  function-broken true g f is = rw is (chosen-name (body_has_own_name f))
  function-broken false g f is = rw is (chosen-name (body_has_own_name f))

  module-broken : (flag : Bool) → broken m limit (other_rules flag) spot.Module ≡ cond (constants_have_own_names m) None (Some code.ReservedName)
  unfolding keeps_rule
  module-broken true = rw (and-true (constants_have_own_names m)) (chosen-name (constants_have_own_names m))
    where
      and-true : (b : Bool) → (b && true) ≡ b
      and-true true = refl
      and-true false = refl
  module-broken false = rw (and-true (constants_have_own_names m)) (chosen-name (constants_have_own_names m))
    where
      and-true : (b : Bool) → (b && true) ≡ b
      and-true true = refl
      and-true false = refl

module _ (m : Module) (limit : ℕ) (flag : Bool) where
  abbrev cs : List TypeCode
  cs = other_rules flag

  abbrev K : Option Required
  K = required_of m limit flag

  first-both : (xs ys : List Spot) → first_in m limit cs (xs ++ ys) ≡ or_else (first_in m limit cs xs) (first_in m limit cs ys)
  first-both [] ys = refl
  first-both (x ∷ xs) ys = ap (first_at x (broken m limit cs x)) (first-both xs ys) ∙ or-else-first x (broken m limit cs x) (first_in m limit cs xs) (first_in m limit cs ys)

  module _ (g : ℕ) (f : Function) (is : slice_get m.funcs g ≡ Some f) where
    -- the points of a block from an index on
    points-walk : (b : ℕ) (c : Block) → block_at f (record { 0 = b }) ≡ Some c → (i n : ℕ) (ss : List Step) → length ss ≡ n → ((j : ℕ) (s : Step) → slice_get ss j ≡ Some s → step_at c (i + j) ≡ s) → first_in m limit cs (points_from g b i n) ≡ steps_fault m K g f b i ss
    points-walk b c here i zero [] l h = refl
    points-walk b c here i zero (s ∷ ss) l h = absurd (omega (arith, l))
    points-walk b c here i (suc n) [] l h = absurd (omega (arith, l))
    points-walk b c here i (suc n) (s ∷ ss) l h =
        let z : i ≡ i + 0 = omega arith in
        let next : suc i ≡ i + 1 = omega arith in
        let e = step-here f (point_at g b i) c here ∙ ap (step_at c) z ∙ h 0 s refl in
        let rest = points-walk b c here (suc i) n ss (omega (arith, l)) (λ j t q. let y : suc i + j ≡ i + suc j = omega arith in ap (step_at c) y ∙ h (suc j) t q) in
        ap (λ o. first_at (spot.At (point_at g b i)) o (first_in m limit cs (points_from g b (suc i) n))) (step-broken m limit flag g f b i s is e)
        ∙ ap (first_at (spot.At (point_at g b i)) (step_breaks m K f b s)) (rest ∙ ap (λ j. steps_fault m K g f b j ss) next)

    block-walk : (b : ℕ) (c : Block) → block_at f (record { 0 = b }) ≡ Some c → first_in m limit cs (block_spots g b c) ≡ steps_fault m K g f b 0 (steps_of_block c)
    block-walk b c here =
        points-walk b c here 0 (suc (length c.phis + length c.insts)) (steps_of_block c) (steps-length c)
        (λ j s e.
        let lt = within (steps_of_block c) j s e in
        let l = steps-length c in
        let z : 0 + j ≡ j = omega arith in
        ap (step_at c) z ∙ some-same (step_at c j) s (sym (step-is c j (omega (arith, lt, l))) ∙ e))

    block-is : (all : List Block) → f.blocks ≡ Some all → (b : ℕ) → block_at f (record { 0 = b }) ≡ slice_get all b
    block-is all e b = rw e refl

    blocks-walk : (all : List Block) → f.blocks ≡ Some all → (b : ℕ) (bs : List Block) → ((j : ℕ) (c : Block) → slice_get bs j ≡ Some c → slice_get all (b + j) ≡ Some c) → first_in m limit cs (blocks_spots g b bs) ≡ blocks_fault m K g f b bs
    blocks-walk all e b [] h = refl
    blocks-walk all e b (c ∷ bs) h =
        let z : b ≡ b + 0 = omega arith in
        let next : suc b ≡ b + 1 = omega arith in
        let here : block_at f (record { 0 = b }) ≡ Some c = block-is all e b ∙ ap (slice_get all) z ∙ h 0 c refl in
        let rest = blocks-walk all e (suc b) bs (λ j d q. let y : suc b + j ≡ b + suc j = omega arith in ap (slice_get all) y ∙ h (suc j) d q) in
        first-both (block_spots g b c) (blocks_spots g (suc b) bs)
        ∙ ap (λ o. or_else o (first_in m limit cs (blocks_spots g (suc b) bs))) (block-walk b c here)
        ∙ ap (or_else (steps_fault m K g f b 0 (steps_of_block c))) (rest ∙ ap (λ j. blocks_fault m K g f j bs) next)

    all-walk : (o : Option (List Block)) → f.blocks ≡ o → first_in m limit cs (blocks_spots g 0 (blocks_or_none o)) ≡ blocks_fault m K g f 0 (blocks_or_none o)
    all-walk None e = refl
    all-walk (Some bs) e = blocks-walk bs e 0 bs (λ j c h. let z : 0 + j ≡ j = omega arith in ap (slice_get bs) z ∙ h)

    function-walk : first_in m limit cs (function_spots g f) ≡ function_fault m K g f
    function-walk =
        ap (λ o. first_at (spot.Func (record { 0 = g })) o (first_in m limit cs (blocks_spots g 0 (blocks_of f)))) (function-broken m limit flag g f is)
        ∙ ap (first_at (spot.Func (record { 0 = g })) (function_breaks f)) (all-walk f.blocks refl)

  functions-walk : (g : ℕ) (fs : List Function) → ((j : ℕ) (f : Function) → slice_get fs j ≡ Some f → slice_get m.funcs (g + j) ≡ Some f) → first_in m limit cs (functions_spots g fs) ≡ functions_fault m K g fs
  functions-walk g [] h = refl
  functions-walk g (f ∷ fs) h =
      let z : g ≡ g + 0 = omega arith in
      let next : suc g ≡ g + 1 = omega arith in
      let is : slice_get m.funcs g ≡ Some f = ap (slice_get m.funcs) z ∙ h 0 f refl in
      let rest = functions-walk (suc g) fs (λ j d q. let y : suc g + j ≡ g + suc j = omega arith in ap (slice_get m.funcs) y ∙ h (suc j) d q) in
      first-both (function_spots g f) (functions_spots (suc g) fs)
      ∙ ap (λ o. or_else o (first_in m limit cs (functions_spots (suc g) fs))) (function-walk g f is)
      ∙ ap (or_else (function_fault m K g f)) (rest ∙ ap (λ n. functions_fault m K n fs) next)

  -- along the tree as along the spots
  walk-is-search : first_in m limit cs (spots m) ≡ module_fault m K
  walk-is-search =
      ap (λ o. first_at spot.Module o (first_in m limit cs (functions_spots 0 m.funcs))) (module-broken m limit flag)
      ∙ ap (first_at spot.Module (cond (constants_have_own_names m) None (Some code.ReservedName))) (functions-walk 0 m.funcs (λ j f h. let z : 0 + j ≡ j = omega arith in ap (slice_get m.funcs) z ∙ h))

-- ---- the first fault

abbrev IsTold : Module → ℕ → Option (Spot × TypeCode) → Type 0
IsTold m limit o = MatchOption o (Typed m limit) (λ x. IsFirstFault m limit x.0 x.1)

told-by : (m : Module) (limit : ℕ) (o : Option (Spot × TypeCode)) → first_fault m limit ≡ o → IsTold m limit o
told-by m limit None e = typed m limit e
told-by m limit (Some x) e = first m limit x e

told : (m : Module) (limit : ℕ) (entry found : Option (Spot × TypeCode)) (k : Option Required) → entry ≡ entry_fault m limit → k ≡ required_of m limit (is_none entry) → found ≡ module_fault m k → IsTold m limit (or_else found entry)
unfolding first_fault
told m limit entry found k e r h =
    told-by m limit (or_else found entry)
    (sym ((λ i. or_else ((h ∙ ap (module_fault m) (r ∙ ap (λ o. required_of m limit (is_none o)) e) ∙ sym (walk-is-search m limit (is_none (entry_fault m limit)))) i) (e i))))

or-is : (a b : Option (Spot × TypeCode)) → option_or a b ≡ or_else a b
or-is None b = refl
or-is (Some x) b = refl

pub first-told : (m : Module) (limit : ℕ) (entry found r : Option (Spot × TypeCode)) (k : Option Required) → entry ≡ entry_fault m limit → k ≡ required_of m limit (is_none entry) → found ≡ module_fault m k → r ≡ option_or found entry → MatchOption r (Typed m limit) (λ x. IsFirstFault m limit x.0 x.1)
first-told m limit entry found r k e h d is = subst (IsTold m limit) (sym (is ∙ or-is found entry)) (told m limit entry found k e h d)
