-- Side rules kept or left aside in viable prefixes: the first fault is the same.
use Rattle.std.proofs.Common.{◌≡◌, false, List, [], ◌∷◌, ◌++◌, ◌⊎◌, inl, inr, refl, sym, ap, ◌∙◌, subst, append_assoc}
use Rattle.grammar.specs.declared.fault.Fault.{Fault}
use Rattle.grammar.specs.declared.fault.Fault.TheVariants.{Unexpected, Broken}
use Rattle.grammar.specs.Grammar.{Alphabet, Grammar}
use Rattle.grammar.specs.LookAhead.{LL1}
use Rattle.grammar.specs.Language.{Derives, Ending, Fine, Marked, Breaks, Front, IsFault}
use Rattle.grammar.specs.code.Reading.{Out, Got, Stop, read}
use Rattle.grammar.specs.Aside.{bare, KeepsRules, IsFaultAside, SameFault}
use Rattle.grammar.proofs.Basics.{no_parts, ends_none}
use Rattle.grammar.proofs.Begin.{Ends}
use Rattle.grammar.proofs.Complete.{derives_read, front_read}
use Rattle.grammar.proofs.Swap.{Swapped, swaps}
use Rattle.grammar.proofs.Answer.{derives_front, front_prefix, split_cases, mark_says}
use Rattle.grammar.proofs.Bare.{bare_decided, derives_bare, front_bare, SameOut, same_or_broken}

module _ (L : Alphabet) {A : Type 0} (g : Grammar L A) (p : LL1 g) where
  -- what is fine breaks no side rule

  pub fine_breaks : (us : List L.Token) (r : L.Rule) → Front g Fine us → Front g (Breaks r) us → ⊥
  fine_breaks us r h k = go (read g false us) (front_read L g p Fine us h false) (front_read L g p (Breaks r) us k false)
    where
      go : (o : Out L A) → Ends L Fine o → Ends L (Breaks r) o → ⊥
      go (Got x d rest) e f = f.1
      go (Stop (Unexpected d) rest) e f = f.1
      go (Stop (Broken q) rest) e f = e

  fine_keeps : (us : List L.Token) → Front g Fine us → KeepsRules g us
  fine_keeps us h vs ws t e r b = fine_breaks (vs ++ t ∷ []) r (front_prefix L g p (vs ++ t ∷ []) ws (subst (Front g Fine) (e ∙ sym (append_assoc vs (t ∷ []) ws)) h)) b

  keeps_last : (us : List L.Token) (t : L.Token) → Front g Fine us → ((r : L.Rule) → Front g (Breaks r) (us ++ t ∷ []) → ⊥) → KeepsRules g (us ++ t ∷ [])
  keeps_last us t h n vs ws u e r b = go (split_cases L us (t ∷ []) (vs ++ u ∷ []) ws (e ∙ sym (append_assoc vs (u ∷ []) ws)))
    where
      last : (x : L.Token) (w : List L.Token) → vs ++ u ∷ [] ≡ us ++ x ∷ w → t ∷ [] ≡ x ∷ (w ++ ws) → ⊥
      last x w i j =
          let k : t ≡ x = cc in
          let l : [] ≡ w ++ ws = cc in
          n r (subst (λ z. Front g (Breaks r) (us ++ z ∷ [])) (sym k) (subst (λ z. Front g (Breaks r) (us ++ x ∷ z)) (no_parts w ws l).0 (subst (Front g (Breaks r)) i b)))

      go : ((us ≡ vs ++ u ∷ []) × (t ∷ [] ≡ ws)) ⊎ (((x : L.Token) × (w : List L.Token) × (vs ++ u ∷ [] ≡ us ++ x ∷ w) × (t ∷ [] ≡ x ∷ (w ++ ws))) ⊎ ((x : L.Token) × (w : List L.Token) × (us ≡ (vs ++ u ∷ []) ++ x ∷ w) × (ws ≡ x ∷ (w ++ t ∷ [])))) → ⊥
      go (inl i) = fine_breaks (vs ++ u ∷ []) r (subst (Front g Fine) i.0 h) b
      go (inr (inl i)) = last i.0 i.1 i.2 i.3
      go (inr (inr i)) = fine_breaks (vs ++ u ∷ []) r (front_prefix L g p (vs ++ u ∷ []) (i.0 ∷ i.1) (subst (Front g Fine) i.2 h)) b

  -- what a reading to the end says

  pub fine_of : (us : List L.Token) (o : Out L A) → Ends L Fine o → Swapped L (Derives g) (Front g) (read g) false us o → Front g Fine us
  fine_of us (Got x d rest) e h = subst (Front g Fine) (sym (h.1 ∙ ends_none h.0 rest e.0)) (derives_front L g h.0 x h.2)
  fine_of us (Stop (Unexpected d) rest) e h = subst (Front g Fine) (sym (h.1 ∙ ends_none h.0 rest e.0)) h.2
  fine_of us (Stop (Broken r) rest) e h = absurd e

  marked_of : (us : List L.Token) (o : Out L A) → Ends L Marked o → Swapped L (Derives g) (Front g) (read g) false us o → Front g Marked us
  marked_of us (Got x d rest) e h = subst (Front g Marked) (sym (h.1 ∙ ends_none h.0 rest e.0)) (mark_says L g p h.0 d h.3 e.1)
  marked_of us (Stop (Unexpected d) rest) e h = subst (Front g Marked) (sym (h.1 ∙ ends_none h.0 rest e.0)) (mark_says L g p h.0 d h.3 e.1)
  marked_of us (Stop (Broken r) rest) e h = absurd e

  -- without side rules, and none is broken

  no_break : (us : List L.Token) → KeepsRules g us → (r : L.Rule) (rest : List L.Token) → read g false us ≡ Stop (Broken r) rest → ⊥
  no_break us k r rest e =
      let h = subst (λ o. Swapped L (Derives g) (Front g) (read g) false us o) e (swaps L g p false us) in
      let y = h.3 in
      k h.0 y.1 y.0 (h.1 ∙ ap (λ z. h.0 ++ z) y.2) r y.3

  same_reading : (us : List L.Token) → KeepsRules g us → SameOut L (read (bare g) false us) (read g false us) → read (bare g) false us ≡ read g false us
  same_reading us k (inl e) = e
  same_reading us k (inr e) = absurd (no_break us k e.0 e.1 e.2)

  kept_ends : (m : Ending L) (us : List L.Token) → Front (bare g) m us → KeepsRules g us → Ends L m (read g false us)
  kept_ends m us h k = subst (Ends L m) (same_reading us k (same_or_broken L g false us)) (front_read L (bare g) (bare_decided g p) m us h false)

  bare_fine : (us : List L.Token) → Front (bare g) Fine us → KeepsRules g us → Front g Fine us
  bare_fine us h k = fine_of us (read g false us) (kept_ends Fine us h k) (swaps L g p false us)

  bare_marked : (us : List L.Token) → Front (bare g) Marked us → KeepsRules g us → Front g Marked us
  bare_marked us h k = marked_of us (read g false us) (kept_ends Marked us h k) (swaps L g p false us)

  bare_derives : (us : List L.Token) (x : A) → Derives (bare g) us x → KeepsRules g us → Derives g us x
  bare_derives us x w k =
      let h = derives_read L (bare g) (bare_decided g p) us x w false [] refl in
      let e : read g false us ≡ Got x h.0 [] = sym (same_reading us k (same_or_broken L g false us)) ∙ (ap (read (bare g) false) (sym (ends_none us [] refl)) ∙ h.1) in
      let s = subst (λ o. Swapped L (Derives g) (Front g) (read g) false us o) e (swaps L g p false us) in
      subst (λ z. Derives g z x) (sym (s.1 ∙ ends_none s.0 [] refl)) s.2

  -- the two faults

  fault_aside : (f : Fault L.Rule) (us rest : List L.Token) → Front g Fine us → IsFault g us rest f → IsFaultAside g us rest f
  fault_aside (Unexpected d) us [] h n = (λ x w. n.0 x (bare_derives us x w (fine_keeps us h)), λ i. front_bare g Marked us (n.1 i), λ k. n.2 (bare_marked us k (fine_keeps us h)))
  fault_aside (Unexpected d) us (t ∷ v) h n = (λ k. n.0.0 (bare_fine (us ++ t ∷ []) k (keeps_last us t h n.0.1)), λ i. front_bare g Marked us (n.1 i), λ k. n.2 (bare_marked us k (fine_keeps us h)))
  fault_aside (Broken r) us [] h n = n
  fault_aside (Broken r) us (t ∷ v) h n = n.0

  fault_kept : (f : Fault L.Rule) (us rest : List L.Token) → KeepsRules g us → IsFaultAside g us rest f → IsFault g us rest f
  fault_kept (Unexpected d) us [] k n = (λ x w. n.0 x (derives_bare g us x w), λ i. bare_marked us (n.1 i) k, λ h. n.2 (front_bare g Marked us h))
  fault_kept (Unexpected d) us (t ∷ v) k n = ((λ h. n.0 (front_bare g Fine (us ++ t ∷ []) h), λ r h. n.0 (front_bare g (Breaks r) (us ++ t ∷ []) h)), λ i. bare_marked us (n.1 i) k, λ h. n.2 (front_bare g Marked us h))
  fault_kept (Broken r) us [] k n = n
  fault_kept (Broken r) us (t ∷ v) k n = (n, λ h. fine_breaks (us ++ t ∷ []) r h n)

  pub same_fault : SameFault g
  same_fault ts f k = (
    λ m. (m.0, m.1, m.2, m.3, front_bare g Fine m.0 m.4, fine_keeps m.0 m.4, fault_aside f m.0 m.1 m.4 m.5),
    λ m. (m.0, m.1, m.2, m.3, bare_fine m.0 m.4 m.5, fault_kept f m.0 m.1 m.5 m.6),
  )
