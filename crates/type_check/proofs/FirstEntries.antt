-- Entries agree exactly where each has the operand of the first one for its block.
use Rattle.std.proofs.Common.{◌≡◌, ℕ, Bool, true, false, ◌&&◌, ◌||◌, not, cond, Option, None, Some, if◌then◌else◌, List, [], ◌∷◌, refl, sym, ap, ◌∙◌, subst, true≢false, option_map, is_some}
use Rattle.std.specs.Cmp.{unsigned_Decides}
use Rattle.std.specs.List.{list_all}
use Rattle.std.specs.Option.{option_or}
use Rattle.std.specs.Prelude.{◌==◌}
use Rattle.ir_values.specs.declared.ids.BlockId.{BlockId}
use Rattle.ir_values.specs.Equal.{same_test}
use Rattle.ir_module.specs.declared.tree.Operand.{Operand}
use Rattle.type_check.specs.code.Phis.{agrees, noted, agree_from}
use Rattle.type_check.specs.Rules.{same_operand, entries_agree}
use Rattle.type_check.proofs.SameOperands.{same_operand-decides}

abbrev Entry : Type 0
Entry = Operand × BlockId

turned : (a b : Operand) → same_operand a b ≡ same_operand b a
turned a b =
    let d = same_operand-decides b a in same_test (same_operand a b) (same_operand b a) (same_operand-decides a b) ((λ h. sym (d.0 h)), (λ h. d.1 (sym h)))

abbrev differ : Entry → Entry → Bool
differ d e = not (d.1.0 == e.1.0) || same_operand d.0 e.0

abbrev fits : (ℕ → Option Operand) → Entry → Bool
fits first d = agrees (first d.1.0) d.0

equal-turned : (m n : ℕ) → (m == n) ≡ (n == m)
equal-turned m n = let d = unsigned_Decides n m in same_test (m == n) (n == m) (unsigned_Decides m n) ((λ h. sym (d.0 h)), (λ h. d.1 (sym h)))

-- an entry behind e, where e fits those before it
fits-noted : (first : ℕ → Option Operand) (e d : Entry) → fits first e ≡ true → fits (noted first e) d ≡ (fits first d && differ d e)
fits-noted first e d h = rw (equal-turned e.1.0 d.1.0) (by (first d.1.0) (d.1.0 == e.1.0) refl refl)
  where
    by : (o : Option Operand) (b : Bool) → first d.1.0 ≡ o → (d.1.0 == e.1.0) ≡ b → agrees (option_or o (if b then Some e.0 else None)) d.0 ≡ (agrees o d.0 && (not b || same_operand d.0 e.0))
    by None true f t = turned e.0 d.0
    by None false f t = refl
    by (Some p) false f t = and-true (same_operand p d.0)
      where
        and-true : (x : Bool) → x ≡ (x && true)
        and-true true = refl
        and-true false = refl
    by (Some p) true f t =
        let z : first e.1.0 ≡ Some p = ap first (sym ((unsigned_Decides d.1.0 e.1.0).0 t)) ∙ f in
        let same : same_operand p e.0 ≡ true = subst (λ o. agrees o e.0 ≡ true) z h in
        let eq : p ≡ e.0 = (same_operand-decides p e.0).0 same in
        twice (same_operand p d.0) (same_operand d.0 e.0) (turned p d.0 ∙ ap (same_operand d.0) eq)
      where
        twice : (x y : Bool) → x ≡ y → x ≡ (x && y)
        twice true y q = q
        twice false y q = refl

all-noted : (first : ℕ → Option Operand) (e : Entry) (es : List Entry) → fits first e ≡ true → list_all (fits (noted first e)) es ≡ (list_all (fits first) es && list_all (λ d. differ d e) es)
all-noted first e [] h = refl
all-noted first e (d ∷ es) h =
    ap (λ b. b && list_all (fits (noted first e)) es) (fits-noted first e d h)
    ∙ ap (λ b. (fits first d && differ d e) && b) (all-noted first e es h)
    ∙ mix (fits first d) (differ d e) (list_all (fits first) es) (list_all (λ d. differ d e) es)
  where
    mix : (a b c d : Bool) → ((a && b) && (c && d)) ≡ ((a && c) && (b && d))
    mix true true c d = refl
    mix true false true d = refl
    mix true false false d = refl
    mix false b c d = refl

agree-is : (first : ℕ → Option Operand) (es : List Entry) → agree_from first es ≡ (list_all (fits first) es && entries_agree es)
agree-is first [] = refl
agree-is first (e ∷ es) = by (fits first e) refl (agree-is (noted first e) es)
  where
    by : (b : Bool) → fits first e ≡ b → agree_from (noted first e) es ≡ (list_all (fits (noted first e)) es && entries_agree es) → (b && agree_from (noted first e) es) ≡ ((b && list_all (fits first) es) && (list_all (λ d. differ d e) es && entries_agree es))
    by false h rest = refl
    by true h rest =
        rest
        ∙ ap (λ b. b && entries_agree es) (all-noted first e es h)
        ∙ move (list_all (fits first) es) (list_all (λ d. differ d e) es) (entries_agree es)
      where
        move : (a b c : Bool) → ((a && b) && c) ≡ (a && (b && c))
        move true b c = refl
        move false b c = refl

all-free : (es : List Entry) → list_all (fits (λ q. None)) es ≡ true
all-free [] = refl
all-free (e ∷ es) = all-free es

pub agree : (es : List Entry) → agree_from (λ q. None) es ≡ entries_agree es
agree es = agree-is (λ q. None) es ∙ ap (λ b. b && entries_agree es) (all-free es)

-- the same, with operands that are told the same
pub agree-by : (f g : ℕ → Option Operand) (es : List Entry) → ((q : ℕ) → f q ≡ g q) → agree_from f es ≡ agree_from g es
agree-by f g es h = ap (λ first. agree_from first es) (λ i q. h q i)

-- ---- the table of the operands that are kept

module _ {X : Type 0} (v : X → Operand) where
  none : (o : Option X) → is_some o ≡ false → o ≡ None
  none None e = refl
  none (Some x) e = absurd (true≢false e)

  new : (f : Option X) (n : X) (b : Bool) → (b ≡ true → f ≡ None) → option_map v (cond b (Some n) f) ≡ option_or (option_map v f) (if b then Some (v n) else None)
  new f n true h = rw (h refl) refl
  new None n false h = refl
  new (Some x) n false h = refl

  old : (f : Option X) (o : Operand) (b : Bool) → (b ≡ true → is_some f ≡ true) → option_map v f ≡ option_or (option_map v f) (if b then Some o else None)
  old None o true h = absurd (true≢false (sym (h refl)))
  old None o false h = refl
  old (Some x) o b h = refl

  -- a block that had none
  pub by-new : (f g : ℕ → Option X) (block : ℕ) (n : X) → is_some (f block) ≡ false → ((q : ℕ) → g q ≡ cond (block == q) (Some n) (f q)) → (q : ℕ) → option_map v (g q) ≡ option_or (option_map v (f q)) (if block == q then Some (v n) else None)
  by-new f g block n a h q = ap (option_map v) (h q) ∙ new (f q) n (block == q) (λ e. none (f q) (subst (λ k. is_some (f k) ≡ false) ((unsigned_Decides block q).0 e) a))

  -- one that had one
  pub by-old : (f : ℕ → Option X) (block : ℕ) (o : Operand) → is_some (f block) ≡ true → (q : ℕ) → option_map v (f q) ≡ option_or (option_map v (f q)) (if block == q then Some o else None)
  by-old f block o a q = old (f q) o (block == q) (λ e. subst (λ k. is_some (f k) ≡ true) ((unsigned_Decides block q).0 e) a)
