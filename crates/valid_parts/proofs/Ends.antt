-- The tail of a node that ends a part uses values of its part's scope, and its jumps fit the parts that they lead to.
use Rattle.std.proofs.Common.{◌≡◌, ℕ, zero, suc, ◌<◌, Bool, true, false, Option, None, Some, List, [], ◌∷◌, ◌++◌, length, map, refl, sym, ap, ◌∙◌, subst, arith}
use Rattle.std.proofs.lemmas.Bool.{and_from}
use Rattle.std.specs.Cmp.{unsigned_Decides}
use Rattle.std.specs.List.{list_all}
use Rattle.std.specs.Prelude.{◌==◌, ◌||◌, ⊤, not, slice_get}
use Rattle.ir_values.specs.declared.int.Width.{Width}
use Rattle.ir_values.specs.declared.int.Width.TheVariants.{W1, W64}
use Rattle.ir_values.specs.declared.ty.Ty.{Ty}
use Rattle.ir_values.specs.declared.ty.Ty.TheVariants as ty
use Rattle.ir_values.specs.declared.value.Value.TheVariants as value
use Rattle.ir_values.specs.Int.{IntValue}
use Rattle.ir_values.specs.Values.{same_width}
use Rattle.kept_items.specs.declared.item.Choice.{Choice}
use Rattle.kept_items.specs.declared.item.Choice.TheVariants.{One, Branch, Switch}
use Rattle.kept_items.specs.declared.item.Code.{Code}
use Rattle.kept_items.specs.declared.item.Code.TheVariants as code
use Rattle.kept_items.specs.declared.target.Target.{Target}
use Rattle.kept_items.specs.declared.val.Dyn.{Dyn}
use Rattle.kept_items.specs.declared.val.Val.{Val}
use Rattle.kept_items.specs.declared.val.Val.TheVariants.{Known, Dynamic}
use Rattle.path_search.specs.declared.visit.Link.{Link}
use Rattle.residue.specs.declared.parts.Jump.{Jump}
use Rattle.residue.specs.declared.parts.Part.{Part}
use Rattle.residue.specs.declared.parts.Tail.{Tail}
use Rattle.residue.specs.declared.parts.Tail.TheVariants as tail
use Rattle.residue.specs.Scopes.{jumps, tail_uses}
use Rattle.residue.specs.Valid.{agrees_with, all_agree, args_fit, same_vals, val_has}
use Rattle.fused_parts.specs.Nodes.{Links}
use Rattle.fused_parts.specs.Parts.{case_jumps, choice_tail, code_val, exit_tail, jump_to, last_jump, nowhere, number_at}
use Rattle.lowered_runs.proofs.Joined.{all-at}
use Rattle.valid_steps.specs.Items.{IsChoice, IsCode}
use Rattle.valid_steps.specs.Types.{IsDynamic}
use Rattle.scoped_parts.proofs.Fits.{Fit, dynamic-has, int_type, same-width}
use Rattle.scoped_parts.proofs.Good.{JumpGood, JumpsGood, TailGood, all_have}
use Rattle.scoped_parts.proofs.Rows.{same-number}

-- the first values stay where more follow
early : {A B : Type 0} (f : A → B) (xs ys : List A) (i : ℕ) (y : B) → slice_get (map f xs) i ≡ Some y → slice_get (map f (xs ++ ys)) i ≡ Some y
early f [] ys i y e = cc
early f (x ∷ xs) ys zero y e = e
early f (x ∷ xs) ys (suc i) y e = early f xs ys i y e

same-numbers : (mine args : List Dyn) → same_vals (map (λ d. Dynamic (number_at mine d)) args) (map (λ d. Dynamic (number_at mine d)) args) ≡ true
same-numbers mine [] = refl
same-numbers mine (d ∷ args) =
    and_from ((number_at mine d).0 == (number_at mine d).0) (same_vals (map (λ d. Dynamic (number_at mine d)) args) (map (λ d. Dynamic (number_at mine d)) args))
    (same-number (number_at mine d).0) (same-numbers mine args)

-- where nothing follows, 0 is returned
pub stops : (all : List Part) (scope : List (ℕ × Width)) → TailGood all scope nowhere
stops all scope = record { uses = refl; leads = tt; agree = refl }

-- exits may share a part without parameters
abbrev pub SharedStands : List Part → Option ℕ → Type 0
SharedStands all None = ⊤
SharedStands all (Some k) = (to : Part) × (slice_get all k ≡ Some to) × (to.params ≡ []) × (0 < k)

-- it is one of these edges
abbrev pub IsIn : Links → Link (List Dyn) → Type 0
IsIn links l = (q : ℕ) × (slice_get links q ≡ Some l)

module _ (all : List Part) (part_of : ℕ → ℕ) (scope : List (ℕ × Width)) (mine : List Dyn) (ws more : List Width) (fit : Fit scope mine (ws ++ more)) where
  dynamic-is : (u : Ty) (d : Dyn) → IsDynamic (map int_type ws) u d → val_has scope u (Dynamic (number_at mine d)) ≡ true
  dynamic-is u d e = dynamic-has scope mine (ws ++ more) u d fit (early int_type ws more d.0 (Some u) e)

  -- ---- exits

  code-has : (t : Target) (c : Code) → IsCode t (map int_type ws) c → val_has scope (ty.Int W64) (code_val mine c) ≡ true
  code-has t (code.Known z) h = refl
  code-has t (code.Dynamic d) h = dynamic-is (ty.Int W64) d h.1

  pub exit-good : (t : Target) (o : Option ℕ) (c : Code) → IsCode t (map int_type ws) c → SharedStands all o → TailGood all scope (exit_tail o mine c)
  exit-good t None c h s = record { uses = and_from (val_has scope (ty.Int W64) (code_val mine c)) true (code-has t c h) refl; leads = tt; agree = refl }
  exit-good t (Some k) c h s = record {
    uses = refl;
    leads = (record { to = s.0; is = s.1; later = s.3; fit = ap (λ ps. args_fit scope ps []) s.2 }, tt);
    agree = refl;
  }

  -- ---- edges

  module _ (all_links : Links) (good : (l : Link (List Dyn)) → IsIn all_links l → JumpGood all scope (jump_to part_of mine l))
      (same : (l k : Link (List Dyn)) → IsIn all_links l → IsIn all_links k → part_of l.to ≡ part_of k.to → l.label ≡ k.label) where
    -- the jump is that of an edge
    record IsOfLink (j : Jump) : Type 0 where
      link : Link (List Dyn)
      is_in : IsIn all_links link
      is : j ≡ jump_to part_of mine link

    abbrev AreOfLinks : List Jump → Type 0
    AreOfLinks [] = ⊤
    AreOfLinks (j ∷ js) = IsOfLink j × AreOfLinks js

    link-jump : (l : Link (List Dyn)) → IsIn all_links l → IsOfLink (jump_to part_of mine l)
    link-jump l h = record { link = l; is_in = h; is = refl }

    agree-two : (j i : Jump) → IsOfLink j → IsOfLink i → agrees_with j i ≡ true
    agree-two j i a b = by-test (j.to == i.to) refl
      where
        args-same : j.to ≡ i.to → same_vals j.args i.args ≡ true
        args-same e =
            let labels = same a.link b.link a.is_in b.is_in (ap (λ (z : Jump). z.to) (sym a.is) ∙ e ∙ ap (λ (z : Jump). z.to) b.is) in
            ap (λ (z : Jump). same_vals z.args i.args) a.is ∙ ap (λ (z : Jump). same_vals (jump_to part_of mine a.link).args z.args) b.is
            ∙ ap (λ (ds : List Dyn). same_vals (jump_to part_of mine a.link).args (map (λ d. Dynamic (number_at mine d)) ds)) (sym labels) ∙ same-numbers mine a.link.label

        by-test : (b : Bool) → (j.to == i.to) ≡ b → (not (j.to == i.to) || same_vals j.args i.args) ≡ true
        by-test true t = ap (λ z. not z || same_vals j.args i.args) t ∙ args-same ((unsigned_Decides j.to i.to).0 t)
        by-test false t = ap (λ z. not z || same_vals j.args i.args) t

    agree-one : (j : Jump) (js : List Jump) → IsOfLink j → AreOfLinks js → list_all (agrees_with j) js ≡ true
    agree-one j [] a h = refl
    agree-one j (i ∷ js) a h = and_from (agrees_with j i) (list_all (agrees_with j) js) (agree-two j i a h.0) (agree-one j js a h.1)

    agree-all : (js : List Jump) → AreOfLinks js → all_agree js ≡ true
    agree-all [] h = refl
    agree-all (j ∷ js) h = and_from (list_all (agrees_with j) js) (all_agree js) (agree-one j js h.0 h.1) (agree-all js h.1)

    lead-all : (js : List Jump) → AreOfLinks js → JumpsGood all scope js
    lead-all [] h = tt
    lead-all (j ∷ js) h = (subst (JumpGood all scope) (sym h.0.is) (good h.0.link h.0.is_in), lead-all js h.1)

    of-links : (t : Tail) → all_have scope (tail_uses t) ≡ true → AreOfLinks (jumps t) → TailGood all scope t
    of-links t u h = record { uses = u; leads = lead-all (jumps t) h; agree = agree-all (jumps t) h }

    -- ---- choices

    last-link : (links : Links) → ((l : Link (List Dyn)) → IsIn links l → IsIn all_links l) → 0 < length links → IsOfLink (last_jump part_of mine links)
    last-link [] up lt = absurd (omega (arith, lt))
    last-link (l ∷ []) up lt = link-jump l (up l (0, refl))
    last-link (l ∷ k ∷ links) up lt = last-link (k ∷ links) (λ z h. up z (suc h.0, h.1)) (omega arith)

    case-links : (is : List IntValue) (links : Links) → ((l : Link (List Dyn)) → IsIn links l → IsIn all_links l)
        → AreOfLinks (map (λ (c : IntValue × Jump). c.1) (case_jumps part_of mine is links))
    case-links [] [] up = tt
    case-links [] (l ∷ links) up = tt
    case-links (i ∷ is) [] up = tt
    case-links (i ∷ is) (l ∷ links) up = (link-jump l (up l (0, refl)), case-links is links (λ z h. up z (suc h.0, h.1)))

    cases-have : (w : Width) (is : List IntValue) (links : Links) → ((i : ℕ) (c : IntValue) → slice_get is i ≡ Some c → c.width ≡ w)
        → all_have scope (map (λ (c : IntValue × Jump). (ty.Int w, Known (value.Int c.0))) (case_jumps part_of mine is links)) ≡ true
    cases-have w [] [] h = refl
    cases-have w [] (l ∷ links) h = refl
    cases-have w (i ∷ is) [] h = refl
    cases-have w (i ∷ is) (l ∷ links) h =
        and_from (same_width i.width w) (all_have scope (map (λ (c : IntValue × Jump). (ty.Int w, Known (value.Int c.0))) (case_jumps part_of mine is links)))
        (ap (λ z. same_width z w) (h 0 i refl) ∙ same-width w) (cases-have w is links (λ j c e. h (suc j) c e))

    condition : (w : Width) (d : Dyn) (rest : List (Ty × Val)) → IsDynamic (map int_type ws) (ty.Int w) d → all_have scope rest ≡ true
        → all_have scope ((ty.Int w, Dynamic (number_at mine d)) ∷ rest) ≡ true
    condition w d rest e h = and_from (val_has scope (ty.Int w) (Dynamic (number_at mine d))) (all_have scope rest) (dynamic-is (ty.Int w) d e) h

    choice-by : (t : Target) (c : Choice) (links : Links) → IsChoice t (map int_type ws) (length links) c → ((l : Link (List Dyn)) → IsIn links l → IsIn all_links l)
        → TailGood all scope (choice_tail part_of mine c links)
    choice-by t One [] h up = stops all scope
    choice-by t One (l ∷ links) h up = of-links (tail.Jump (jump_to part_of mine l)) refl (link-jump l (up l (0, refl)), tt)
    choice-by t (Branch d) [] h up = stops all scope
    choice-by t (Branch d) (l ∷ []) h up = stops all scope
    choice-by t (Branch d) (l ∷ k ∷ links) h up =
        of-links (tail.Branch (Dynamic (number_at mine d)) (jump_to part_of mine l) (jump_to part_of mine k)) (condition W1 d [] h.1 refl)
        (link-jump l (up l (0, refl)), (link-jump k (up k (1, refl)), tt))
    choice-by t (Switch d w is) links h up =
        of-links (tail.Switch w (Dynamic (number_at mine d)) (last_jump part_of mine links) (case_jumps part_of mine is links))
        (condition w d (map (λ (c : IntValue × Jump). (ty.Int w, Known (value.Int c.0))) (case_jumps part_of mine is links)) h.1
        (cases-have w is links (λ i z e. all-at (λ (c : IntValue). c.width ≡ w) is i z h.2 e)))
        (last-link links up (let e = h.0 in omega (arith, e)), case-links is links up)

    -- the tail of a choice among these edges
    pub choice-good : (t : Target) (c : Choice) → IsChoice t (map int_type ws) (length all_links) c → TailGood all scope (choice_tail part_of mine c all_links)
    choice-good t c h = choice-by t c all_links h (λ l z. z)
