-- How many edges lead to a configuration: another one than a given one, or no more.
use Rattle.std.proofs.Common.{◌≡◌, ◌⊎◌, inl, inr, ℕ, zero, suc, Bool, true, false, Some, List, [], ◌∷◌, refl, ap, ◌∙◌, arith}
use Rattle.std.specs.Cmp.{unsigned_Decides}
use Rattle.std.specs.Prelude.{◌==◌, if◌then◌else◌, slice_get}
use Rattle.kept_items.specs.declared.val.Dyn.{Dyn}
use Rattle.path_search.specs.declared.visit.Link.{Link}
use Rattle.fused_parts.specs.declared.flags.Entered.{Entered}
use Rattle.fused_parts.specs.Nodes.{Links, Node, entered, entered_by, more}

module _ (k : ℕ) where
  -- a link of one of these leads there
  pub record IsLinked (links : Links) : Type 0 where
    pub place : ℕ
    pub link : Link (List Dyn)
    pub stands : slice_get links place ≡ Some link
    pub leads : link.to ≡ k

  pub record IsEntered (xs : List Node) : Type 0 where
    pub from : ℕ
    pub node : Node
    pub is : slice_get xs from ≡ Some node
    pub linked : IsLinked node.links

  -- a link leads there, or the count stays
  links-tell : (links : Links) → IsLinked links ⊎ ((e : Entered) → entered_by k links e ≡ e)
  links-tell [] = inr (λ e. refl)
  links-tell (l ∷ links) = by (l.to == k) refl (links-tell links)
    where
      by : (b : Bool) → (l.to == k) ≡ b → IsLinked links ⊎ ((e : Entered) → entered_by k links e ≡ e) → IsLinked (l ∷ links) ⊎ ((e : Entered) → entered_by k (l ∷ links) e ≡ e)
      by true t rest = inl (record { place = 0; link = l; stands = refl; leads = (unsigned_Decides l.to k).0 t })
      by false t (inl h) = inl (record { place = suc h.place; link = h.link; stands = h.stands; leads = h.leads })
      by false t (inr h) = inr (λ e. ap (λ b. entered_by k links (if b then more e else e)) t ∙ h e)

  nodes-tell : (xs : List Node) → IsEntered xs ⊎ ((e : Entered) → entered k xs e ≡ e)
  nodes-tell [] = inr (λ e. refl)
  nodes-tell (x ∷ xs) = by (links-tell x.links) (nodes-tell xs)
    where
      by : IsLinked x.links ⊎ ((e : Entered) → entered_by k x.links e ≡ e) → IsEntered xs ⊎ ((e : Entered) → entered k xs e ≡ e) → IsEntered (x ∷ xs) ⊎ ((e : Entered) → entered k (x ∷ xs) e ≡ e)
      by (inl h) rest = inl (record { from = 0; node = x; is = refl; linked = h })
      by (inr h) (inl r) = inl (record { from = suc r.from; node = r.node; is = r.is; linked = r.linked })
      by (inr h) (inr r) = inr (λ e. ap (entered k xs) (h e) ∙ r e)

  -- a link of another than number i leads there
  pub record IsOther (xs : List Node) (i : ℕ) : Type 0 where
    pub entry : IsEntered xs
    pub other : entry.from ≡ i → ⊥

  -- where number i has one link, which leads there: another has one too, or it is the only one
  pub others-tell : (xs : List Node) (i : ℕ) (x : Node) (l : Link (List Dyn)) → slice_get xs i ≡ Some x → x.links ≡ l ∷ [] → l.to ≡ k → IsOther xs i ⊎ ((e : Entered) → entered k xs e ≡ more e)
  others-tell [] i x l at one to = cc
  others-tell (y ∷ xs) zero x l at one to = by (nodes-tell xs)
    where
      same : y ≡ x
      same = cc

      here : (e : Entered) → entered_by k y.links e ≡ more e
      here e =
          ap (λ (z : Node). entered_by k z.links e) same ∙ ap (λ ls. entered_by k ls e) one
          ∙ ap (λ b. if b then more e else e) ((unsigned_Decides l.to k).1 to)

      by : IsEntered xs ⊎ ((e : Entered) → entered k xs e ≡ e) → IsOther (y ∷ xs) 0 ⊎ ((e : Entered) → entered k (y ∷ xs) e ≡ more e)
      by (inl h) = inl (record { entry = record { from = suc h.from; node = h.node; is = h.is; linked = h.linked }; other = λ e. omega (arith, e) })
      by (inr h) = inr (λ e. ap (entered k xs) (here e) ∙ h (more e))
  others-tell (y ∷ xs) (suc i) x l at one to = by (links-tell y.links) (others-tell xs i x l at one to)
    where
      by : IsLinked y.links ⊎ ((e : Entered) → entered_by k y.links e ≡ e) → IsOther xs i ⊎ ((e : Entered) → entered k xs e ≡ more e)
          → IsOther (y ∷ xs) (suc i) ⊎ ((e : Entered) → entered k (y ∷ xs) e ≡ more e)
      by (inl h) rest = inl (record { entry = record { from = 0; node = y; is = refl; linked = h }; other = λ e. omega (arith, e) })
      by (inr h) (inl r) =
          inl (record { entry = record { from = suc r.entry.from; node = r.entry.node; is = r.entry.is; linked = r.entry.linked }; other = λ e. r.other (omega (arith, e)) })
      by (inr h) (inr r) = inr (λ e. ap (entered k xs) (h e) ∙ r e)
