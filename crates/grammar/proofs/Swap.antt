-- What is read is a sentence or a viable prefix, and the reading is the same before other tokens.
use Rattle.std.proofs.Common.{◌≡◌, ℕ, zero, suc, ◌<◌, ◌≤◌, Bool, true, false, ◌||◌, ◌&&◌, cond, Option, Some, None, List, [], ◌∷◌, ◌++◌, length, ◌⊎◌, inl, inr, refl, sym, ap, ◌∙◌, subst, append_assoc, length-append, arith}
use Rattle.grammar.specs.declared.fault.Fault.{Fault}
use Rattle.grammar.specs.declared.fault.Fault.TheVariants.{Unexpected, Broken}
use Rattle.grammar.specs.Grammar.{Alphabet, Grammar, nothing, tok, seq, alt, opt, rep, as_tree, dep, grow, marked, is_in, begins_with}
use Rattle.grammar.specs.LookAhead.{nullable, firsts, marks, LL1}
use Rattle.grammar.specs.Language.{Sentence, both, maybe, many, growth, Derives, Ending, Fine, Marked, Breaks, Prefixes, one, mark_front, both_front, many_front, growth_front, Front}
use Rattle.grammar.specs.code.Reading.{Out, Got, Stop, Read, then_do, kept, read_one, read_both, read_maybe, read_many, read_growth, read}
use Rattle.grammar.proofs.Basics.{or_cases, and_cases, ends_none}
use Rattle.grammar.proofs.Going.{Moved, Moves, moves}

module _ (L : Alphabet) where
  -- v is empty or begins as rest does
  abbrev pub alike : List L.Token → List L.Token → Type 0
  alike rest [] = Unit
  alike [] (t ∷ v) = ⊥
  alike (u ∷ rest) (t ∷ v) = t ≡ u

  abbrev pub alike_for : Fault L.Rule → List L.Token → List L.Token → Type 0
  alike_for (Unexpected d) rest v = alike rest v
  alike_for (Broken r) rest [] = ⊥
  alike_for (Broken r) rest (t ∷ v) = alike rest (t ∷ v)

  alike_of : (w : Fault L.Rule) (rest v : List L.Token) → alike_for w rest v → alike rest v
  alike_of (Unexpected d) rest v h = h
  alike_of (Broken r) rest [] h = absurd h
  alike_of (Broken r) rest (t ∷ v) h = h

  alike_front : (us rest v : List L.Token) → alike rest v → alike (us ++ rest) (us ++ v)
  alike_front [] rest v h = h
  alike_front (u ∷ us) rest v h = refl

  -- where the reading says that a marked part may begin next, one may
  abbrev pub MarkFact : Prefixes L → Bool → List L.Token → Bool → Type 0
  MarkFact p c us d = d ≡ true → ((us ≡ []) × (c ≡ true)) ⊎ p Marked us

  abbrev pub FaultFact : Prefixes L → Bool → List L.Token → Fault L.Rule → List L.Token → Type 0
  FaultFact p c us (Unexpected d) rest = MarkFact p c us d
  FaultFact p c us (Broken r) rest = (t : L.Token) × (v : List L.Token) × (rest ≡ t ∷ v) × p (Breaks r) (us ++ t ∷ [])

  -- What is read is a sentence, what is read before a fault is a viable prefix, and the reading is the same before other tokens.
  abbrev pub Swapped : {A : Type 0} → Sentence L.Token A → Prefixes L → Read L A → Bool → List L.Token → Out L A → Type 0
  Swapped w p r c ts (Got x d rest) = (us : List L.Token) × (ts ≡ us ++ rest) × w us x × MarkFact p c us d × ((v : List L.Token) → alike rest v → r c (us ++ v) ≡ Got x d v)
  Swapped w p r c ts (Stop y rest) = (us : List L.Token) × (ts ≡ us ++ rest) × p Fine us × FaultFact p c us y rest × ((v : List L.Token) → alike_for y rest v → r c (us ++ v) ≡ Stop y v)

  abbrev pub Swaps : {A : Type 0} → Sentence L.Token A → Prefixes L → Read L A → Type 0
  Swaps w p r = (c : Bool) (ts : List L.Token) → Swapped w p r c ts (r c ts)

  one_swaps : (s : List L.Kind) (p : L.Token → Option L.Rule) → Swaps (λ ts t. (ts ≡ t ∷ []) × (is_in L t s ≡ true) × (p t ≡ None)) (one L s p) (read_one L s p)
  one_swaps s p c [] = ([], refl, tt, (λ e. inl (refl, e)), nothing_else)
    where
      nothing_else : (v : List L.Token) → alike [] v → read_one L s p c v ≡ Stop (Unexpected c) v
      nothing_else [] h = refl
      nothing_else (t ∷ v) h = absurd h
  one_swaps s p c (t ∷ ts) = go (is_in L t s) refl (p t) refl
    where
      same : is_in L t s ≡ false → (v : List L.Token) → alike (t ∷ ts) v → read_one L s p c v ≡ Stop (Unexpected c) v
      same e [] h = refl
      same e (u ∷ v) h = let f : is_in L u s ≡ false = subst (λ z. is_in L z s ≡ false) (sym h) e in rw f refl

      broke : (r : L.Rule) → is_in L t s ≡ true → p t ≡ Some r → (v : List L.Token) → alike_for (Broken r) (t ∷ ts) v → read_one L s p c v ≡ Stop (Broken r) v
      broke r e f [] h = absurd h
      broke r e f (u ∷ v) h =
          let g : is_in L u s ≡ true = subst (λ z. is_in L z s ≡ true) (sym h) e in
          let i : p u ≡ Some r = subst (λ z. p z ≡ Some r) (sym h) f in
          rw (g, i) refl

      go : (b : Bool) → is_in L t s ≡ b → (o : Option L.Rule) → p t ≡ o → Swapped (λ ts t. (ts ≡ t ∷ []) × (is_in L t s ≡ true) × (p t ≡ None)) (one L s p) (read_one L s p) c (t ∷ ts) (cond b (kept o t ts) (Stop (Unexpected c) (t ∷ ts)))
      go true e None f = (t ∷ [], refl, (refl, e, f), (λ x. absurd (cc)), λ v h. rw (e, f) refl)
      go true e (Some r) f = ([], refl, tt, (t, ts, refl, (e, f)), broke r e f)
      go false e o f = ([], refl, tt, (λ x. inl (refl, x)), same e)

  module _ {A B : Type 0} (wa : Sentence L.Token A) (pa : Prefixes L) (ra : Read L A) (wb : A → Sentence L.Token B) (pb : A → Prefixes L) (rb : A → Read L B) where
    second_mark : (x : A) (c : Bool) (us : List L.Token) (d : Bool) (vs : List L.Token) (e : Bool) → wa us x → MarkFact pa c us d → MarkFact (pb x) d vs e → MarkFact (both_front wa pa pb) c (us ++ vs) e
    second_mark x c us d vs e w f g h = go (g h)
      where
        first : vs ≡ [] → ((us ≡ []) × (c ≡ true)) ⊎ pa Marked us → ((us ++ vs ≡ []) × (c ≡ true)) ⊎ both_front wa pa pb Marked (us ++ vs)
        first n (inl i) = inl (ends_none us vs n ∙ i.0, i.1)
        first n (inr i) = inr (inl (subst (pa Marked) (sym (ends_none us vs n)) i))

        go : ((vs ≡ []) × (d ≡ true)) ⊎ pb x Marked vs → ((us ++ vs ≡ []) × (c ≡ true)) ⊎ both_front wa pa pb Marked (us ++ vs)
        go (inl i) = first i.0 (f i.1)
        go (inr i) = inr (inr (x, us, vs, refl, w, i))

    first_mark : (c : Bool) (us : List L.Token) (d : Bool) → MarkFact pa c us d → MarkFact (both_front wa pa pb) c us d
    first_mark c us d h e = go (h e)
      where
        go : ((us ≡ []) × (c ≡ true)) ⊎ pa Marked us → ((us ≡ []) × (c ≡ true)) ⊎ both_front wa pa pb Marked us
        go (inl i) = inl i
        go (inr i) = inr (inl i)

    first_fault : (c : Bool) (us : List L.Token) (y : Fault L.Rule) (rest : List L.Token) → FaultFact pa c us y rest → FaultFact (both_front wa pa pb) c us y rest
    first_fault c us (Unexpected d) rest h = first_mark c us d h
    first_fault c us (Broken r) rest h = (h.0, h.1, h.2, inl h.3)

    second_fault : (x : A) (c : Bool) (us : List L.Token) (d : Bool) (vs : List L.Token) (y : Fault L.Rule) (rest : List L.Token) → wa us x → MarkFact pa c us d → FaultFact (pb x) d vs y rest → FaultFact (both_front wa pa pb) c (us ++ vs) y rest
    second_fault x c us d vs (Unexpected e) rest w f h = second_mark x c us d vs e w f h
    second_fault x c us d vs (Broken r) rest w f h = (h.0, h.1, h.2, inr (x, us, vs ++ h.0 ∷ [], append_assoc us vs (h.0 ∷ []), w, h.3))

    second_swap : (c : Bool) (ts : List L.Token) (x : A) (d : Bool) (mid : List L.Token) → Swapped wa pa ra c ts (Got x d mid) → (o : Out L B) → Swapped (wb x) (pb x) (rb x) d mid o → Swapped (both wa wb) (both_front wa pa pb) (read_both ra rb) c ts (then_do o (λ y e vs. Got (x, y) e vs))
    second_swap c ts x d mid h (Got y e rest) g = (
      h.0 ++ g.0,
      h.1 ∙ ap (λ z. h.0 ++ z) g.1 ∙ sym (append_assoc h.0 g.0 rest),
      (h.0, g.0, refl, h.2, g.2),
      second_mark x c h.0 d g.0 e h.2 h.3 g.3,
      λ v al. ap (read_both ra rb c) (append_assoc h.0 g.0 v) ∙ ap (λ o. then_do o (λ x d us. then_do (rb x d us) (λ y e vs. Got (x, y) e vs))) (h.4 (g.0 ++ v) (subst (λ m. alike m (g.0 ++ v)) (sym g.1) (alike_front g.0 rest v al))) ∙ ap (λ o. then_do o (λ y e vs. Got (x, y) e vs)) (g.4 v al),
    )
    second_swap c ts x d mid h (Stop y rest) g = (
      h.0 ++ g.0,
      h.1 ∙ ap (λ z. h.0 ++ z) g.1 ∙ sym (append_assoc h.0 g.0 rest),
      inr (x, h.0, g.0, refl, h.2, g.2),
      second_fault x c h.0 d g.0 y rest h.2 h.3 g.3,
      λ v al. ap (read_both ra rb c) (append_assoc h.0 g.0 v) ∙ ap (λ o. then_do o (λ x d us. then_do (rb x d us) (λ y e vs. Got (x, y) e vs))) (h.4 (g.0 ++ v) (subst (λ m. alike m (g.0 ++ v)) (sym g.1) (alike_front g.0 rest v (alike_of y rest v al)))) ∙ ap (λ o. then_do o (λ y e vs. Got (x, y) e vs)) (g.4 v al),
    )

    first_swap : (c : Bool) (ts : List L.Token) (o : Out L A) → Swapped wa pa ra c ts o → ((x : A) → Swaps (wb x) (pb x) (rb x)) → Swapped (both wa wb) (both_front wa pa pb) (read_both ra rb) c ts (then_do o (λ x d us. then_do (rb x d us) (λ y e vs. Got (x, y) e vs)))
    first_swap c ts (Got x d mid) h g = second_swap c ts x d mid h (rb x d mid) (g x d mid)
    first_swap c ts (Stop y rest) h g = (h.0, h.1, inl h.2, first_fault c h.0 y rest h.3, λ v al. ap (λ o. then_do o (λ x d us. then_do (rb x d us) (λ y e vs. Got (x, y) e vs))) (h.4 v al))

    both_swaps : Swaps wa pa ra → ((x : A) → Swaps (wb x) (pb x) (rb x)) → Swaps (both wa wb) (both_front wa pa pb) (read_both ra rb)
    both_swaps h g c ts = first_swap c ts (ra c ts) (h c ts) g

  -- what a test of the next token says before other tokens

  begins_kept : (s : List L.Kind) (ts us rest v : List L.Token) → ts ≡ us ++ rest → length rest < length ts → begins_with L s ts ≡ true → begins_with L s (us ++ v) ≡ true
  begins_kept s ts [] rest v e m h = absurd (omega (arith, ap length e))
  begins_kept s ts (u ∷ us) rest v e m h = subst (λ z. begins_with L s z ≡ true) e h

  alike_begins : (s : List L.Kind) (ts : List L.Token) (t : L.Token) (v : List L.Token) → alike ts (t ∷ v) → begins_with L s ts ≡ true → begins_with L s (t ∷ v) ≡ true
  alike_begins s [] t v al h = absurd al
  alike_begins s (u ∷ ts) t v al h = subst (λ z. is_in L z s ≡ true) (sym al) h

  alike_not : (s : List L.Kind) (ts v : List L.Token) → alike ts v → begins_with L s ts ≡ false → begins_with L s v ≡ false
  alike_not s ts [] al h = refl
  alike_not s [] (t ∷ v) al h = absurd al
  alike_not s (u ∷ ts) (t ∷ v) al h = subst (λ z. is_in L z s ≡ false) (sym al) h

  stop_kept : (A : Type 0) (s : List L.Kind) (ts us rest v : List L.Token) (y : Fault L.Rule) → ts ≡ us ++ rest → Moved L {A = A} ts (Stop y rest) → alike_for y rest v → begins_with L s ts ≡ true → begins_with L s (us ++ v) ≡ true
  stop_kept A s ts us rest v (Unexpected d) e m al h = begins_kept s ts us rest v e m h
  stop_kept A s ts us rest [] (Broken r) e m al h = absurd al
  stop_kept A s ts [] rest (t ∷ v) (Broken r) e m al h = alike_begins s ts t v (subst (λ z. alike z (t ∷ v)) (sym e) al) h
  stop_kept A s ts (u ∷ us) rest (t ∷ v) (Broken r) e m al h = subst (λ z. begins_with L s z ≡ true) e h

  or_mark : (p : Prefixes L) (c y : Bool) (us : List L.Token) → us ≡ [] → (y ≡ true → p Marked []) → MarkFact p c us (c || y)
  or_mark p c y us n f e = go (or_cases c y e)
    where
      go : (c ≡ true) ⊎ (y ≡ true) → ((us ≡ []) × (c ≡ true)) ⊎ p Marked us
      go (inl i) = inl (n, i)
      go (inr i) = inr (subst (p Marked) (sym n) (f i))

  module _ {A : Type 0} (s : List L.Kind) (y : Bool) (wa : Sentence L.Token A) (pa : Prefixes L) (ra : Read L A) (begins_mark : y ≡ true → pa Marked []) where
    maybe_taken : (c : Bool) (ts : List L.Token) → begins_with L s ts ≡ true → (o : Out L A) → Moved L ts o → Swapped wa pa ra c ts o → Swapped (maybe wa) pa (read_maybe s y ra) c ts (then_do o (λ x d us. Got (Some x) d us))
    maybe_taken c ts e (Got x d rest) m h = (
      h.0,
      h.1,
      h.2,
      h.3,
      λ v al.
          let b : begins_with L s (h.0 ++ v) ≡ true = begins_kept s ts h.0 rest v h.1 m e in
          let g : ra c (h.0 ++ v) ≡ Got x d v = h.4 v al in
          rw (b, g) refl,
    )
    maybe_taken c ts e (Stop q rest) m h = (
      h.0,
      h.1,
      h.2,
      h.3,
      λ v al.
          let b : begins_with L s (h.0 ++ v) ≡ true = stop_kept A s ts h.0 rest v q h.1 m al e in
          let g : ra c (h.0 ++ v) ≡ Stop q v = h.4 v al in
          rw (b, g) refl,
    )

    maybe_swaps : Moves L s ra → Swaps wa pa ra → Swaps (maybe wa) pa (read_maybe s y ra)
    maybe_swaps m h c ts = go (begins_with L s ts) refl
      where
        go : (b : Bool) → begins_with L s ts ≡ b → Swapped (maybe wa) pa (read_maybe s y ra) c ts (cond b (then_do (ra c ts) (λ x d us. Got (Some x) d us)) (Got None (c || y) ts))
        go true e = maybe_taken c ts e (ra c ts) (m c ts e) (h c ts)
        go false e = ([], refl, refl, or_mark pa c y [] refl begins_mark, λ v al. let b : begins_with L s v ≡ false = alike_not s ts v al e in rw b refl)

    -- of two alternatives
    left_mark : (p : Prefixes L) (c : Bool) (us : List L.Token) (d : Bool) → MarkFact pa c us d → MarkFact (λ m ts. pa m ts ⊎ p m ts) c us d
    left_mark p c us d h e = go (h e)
      where
        go : ((us ≡ []) × (c ≡ true)) ⊎ pa Marked us → ((us ≡ []) × (c ≡ true)) ⊎ (pa Marked us ⊎ p Marked us)
        go (inl i) = inl i
        go (inr i) = inr (inl i)

    left_fault : (p : Prefixes L) (c : Bool) (us : List L.Token) (q : Fault L.Rule) (rest : List L.Token) → FaultFact pa c us q rest → FaultFact (λ m ts. pa m ts ⊎ p m ts) c us q rest
    left_fault p c us (Unexpected d) rest h = left_mark p c us d h
    left_fault p c us (Broken r) rest h = (h.0, h.1, h.2, inl h.3)

    right_mark : (p : Prefixes L) (c : Bool) (us : List L.Token) (d : Bool) → MarkFact p (c || y) us d → MarkFact (λ m ts. pa m ts ⊎ p m ts) c us d
    right_mark p c us d h e = go (h e)
      where
        before : us ≡ [] → (c ≡ true) ⊎ (y ≡ true) → ((us ≡ []) × (c ≡ true)) ⊎ (pa Marked us ⊎ p Marked us)
        before n (inl i) = inl (n, i)
        before n (inr i) = inr (inl (subst (pa Marked) (sym n) (begins_mark i)))

        go : ((us ≡ []) × ((c || y) ≡ true)) ⊎ p Marked us → ((us ≡ []) × (c ≡ true)) ⊎ (pa Marked us ⊎ p Marked us)
        go (inl i) = before i.0 (or_cases c y i.1)
        go (inr i) = inr (inr i)

    right_fault : (p : Prefixes L) (c : Bool) (us : List L.Token) (q : Fault L.Rule) (rest : List L.Token) → FaultFact p (c || y) us q rest → FaultFact (λ m ts. pa m ts ⊎ p m ts) c us q rest
    right_fault p c us (Unexpected d) rest h = right_mark p c us d h
    right_fault p c us (Broken r) rest h = (h.0, h.1, h.2, inr h.3)

    abbrev either : (Read L A) → Read L A
    either rb c ts = cond (begins_with L s ts) (ra c ts) (rb (c || y) ts)

    left_taken : (wb : Sentence L.Token A) (pb : Prefixes L) (rb : Read L A) (c : Bool) (ts : List L.Token) → begins_with L s ts ≡ true → (o : Out L A) → Moved L ts o → Swapped wa pa ra c ts o → Swapped (λ ts x. wa ts x ⊎ wb ts x) (λ m ts. pa m ts ⊎ pb m ts) (either rb) c ts o
    left_taken wb pb rb c ts e (Got x d rest) m h = (
      h.0,
      h.1,
      inl h.2,
      left_mark pb c h.0 d h.3,
      λ v al.
          let b : begins_with L s (h.0 ++ v) ≡ true = begins_kept s ts h.0 rest v h.1 m e in
          rw b (h.4 v al),
    )
    left_taken wb pb rb c ts e (Stop q rest) m h = (
      h.0,
      h.1,
      inl h.2,
      left_fault pb c h.0 q rest h.3,
      λ v al.
          let b : begins_with L s (h.0 ++ v) ≡ true = stop_kept A s ts h.0 rest v q h.1 m al e in
          rw b (h.4 v al),
    )

    right_taken : (wb : Sentence L.Token A) (pb : Prefixes L) (rb : Read L A) (c : Bool) (ts : List L.Token) → begins_with L s ts ≡ false → (o : Out L A) → Swapped wb pb rb (c || y) ts o → Swapped (λ ts x. wa ts x ⊎ wb ts x) (λ m ts. pa m ts ⊎ pb m ts) (either rb) c ts o
    right_taken wb pb rb c ts e (Got x d rest) h = (
      h.0,
      h.1,
      inr h.2,
      right_mark pb c h.0 d h.3,
      λ v al.
          let b : begins_with L s (h.0 ++ v) ≡ false = alike_not s ts (h.0 ++ v) (subst (λ z. alike z (h.0 ++ v)) (sym h.1) (alike_front h.0 rest v al)) e in
          rw b (h.4 v al),
    )
    right_taken wb pb rb c ts e (Stop q rest) h = (
      h.0,
      h.1,
      inr h.2,
      right_fault pb c h.0 q rest h.3,
      λ v al.
          let b : begins_with L s (h.0 ++ v) ≡ false = alike_not s ts (h.0 ++ v) (subst (λ z. alike z (h.0 ++ v)) (sym h.1) (alike_front h.0 rest v (alike_of q rest v al))) e in
          rw b (h.4 v al),
    )

    either_swaps : (wb : Sentence L.Token A) (pb : Prefixes L) (rb : Read L A) → Moves L s ra → Swaps wa pa ra → Swaps wb pb rb → Swaps (λ ts x. wa ts x ⊎ wb ts x) (λ m ts. pa m ts ⊎ pb m ts) (either rb)
    either_swaps wb pb rb m h g c ts = go (begins_with L s ts) refl
      where
        go : (b : Bool) → begins_with L s ts ≡ b → Swapped (λ ts x. wa ts x ⊎ wb ts x) (λ m ts. pa m ts ⊎ pb m ts) (either rb) c ts (cond b (ra c ts) (rb (c || y) ts))
        go true e = left_taken wb pb rb c ts e (ra c ts) (m c ts e) (h c ts)
        go false e = right_taken wb pb rb c ts e (rb (c || y) ts) (g (c || y) ts)

  tree_swaps : {A B : Type 0} (wa : Sentence L.Token A) (pa : Prefixes L) (ra : Read L A) (f : A → B) → Swaps wa pa ra → Swaps (λ ts y. (x : A) × wa ts x × (y ≡ f x)) pa (λ c ts. then_do (ra c ts) (λ x d us. Got (f x) d us))
  tree_swaps {A} {B} wa pa ra f h c ts = go (ra c ts) (h c ts)
    where
      go : (o : Out L A) → Swapped wa pa ra c ts o → Swapped (λ ts y. (x : A) × wa ts x × (y ≡ f x)) pa (λ c ts. then_do (ra c ts) (λ x d us. Got (f x) d us)) c ts (then_do o (λ x d us. Got (f x) d us))
      go (Got x d rest) g = (g.0, g.1, (x, g.2, refl), g.3, λ v al. ap (λ o. then_do o (λ x d us. Got (f x) d us)) (g.4 v al))
      go (Stop q rest) g = (g.0, g.1, g.2, g.3, λ v al. ap (λ o. then_do o (λ x d us. Got (f x) d us)) (g.4 v al))

  -- of repetitions

  module _ {A : Type 0} (s : List L.Kind) (y : Bool) (wa : Sentence L.Token A) (pa : Prefixes L) (ra : Read L A) (begins_mark : y ≡ true → pa Marked []) (taken : Moves L s ra) (each : Swaps wa pa ra) where
    abbrev reads : ℕ → Read L (List A)
    reads n = read_many s y ra n

    abbrev with_first : A → Out L (List A) → Out L (List A)
    with_first x o = then_do o (λ xs e vs. Got (x ∷ xs) e vs)

    abbrev ManySwapped : Bool → List L.Token → Out L (List A) → Type 0
    ManySwapped c ts (Got xs e rest) = (us : List L.Token) × (ts ≡ us ++ rest) × many wa us xs × MarkFact (many_front wa pa) c us e × ((v : List L.Token) → alike rest v → (m : ℕ) → length (us ++ v) ≤ m → reads m c (us ++ v) ≡ Got xs e v)
    ManySwapped c ts (Stop q rest) = (us : List L.Token) × (ts ≡ us ++ rest) × many_front wa pa Fine us × FaultFact (many_front wa pa) c us q rest × ((v : List L.Token) → alike_for q rest v → (m : ℕ) → length (us ++ v) ≤ m → reads m c (us ++ v) ≡ Stop q v)

    many_none : (m : ℕ) (c : Bool) (v : List L.Token) → begins_with L s v ≡ false → reads m c v ≡ Got [] (c || y) v
    many_none zero c v e = refl
    many_none (suc m) c v e = rw e refl

    many_step : (m : ℕ) (c : Bool) (us : List L.Token) (x : A) (d : Bool) (vs : List L.Token) → begins_with L s (us ++ vs) ≡ true → ra c (us ++ vs) ≡ Got x d vs → reads (suc m) c (us ++ vs) ≡ with_first x (reads m d vs)
    many_step m c us x d vs e f = rw (e, f) refl

    many_stop : (m : ℕ) (c : Bool) (ts : List L.Token) (q : Fault L.Rule) (v : List L.Token) → begins_with L s ts ≡ true → ra c ts ≡ Stop q v → reads (suc m) c ts ≡ Stop q v
    many_stop m c ts q v e f = rw (e, f) refl

    none_swapped : (c : Bool) (ts : List L.Token) → begins_with L s ts ≡ false → ManySwapped c ts (Got [] (c || y) ts)
    none_swapped c ts e = ([], refl, refl, or_mark (many_front wa pa) c y [] refl (λ h. ([], [], [], refl, refl, begins_mark h)), λ v al m le. many_none m c v (alike_not s ts v al e))

    in_front : (k : Ending L) (us : List L.Token) → pa k us → many_front wa pa k us
    in_front k us h = ([], [], us, refl, refl, h)

    more_front : (k : Ending L) (x : A) (us vs : List L.Token) → wa us x → many_front wa pa k vs → many_front wa pa k (us ++ vs)
    more_front k x us vs w h = (x ∷ h.0, us ++ h.1, h.2, ap (λ z. us ++ z) h.3 ∙ sym (append_assoc us h.1 h.2), (us, h.1, refl, w, h.4), h.5)

    many_first_mark : (c : Bool) (us : List L.Token) (d : Bool) → MarkFact pa c us d → MarkFact (many_front wa pa) c us d
    many_first_mark c us d h e = go (h e)
      where
        go : ((us ≡ []) × (c ≡ true)) ⊎ pa Marked us → ((us ≡ []) × (c ≡ true)) ⊎ many_front wa pa Marked us
        go (inl i) = inl i
        go (inr i) = inr (in_front Marked us i)

    many_first_fault : (c : Bool) (us : List L.Token) (q : Fault L.Rule) (rest : List L.Token) → FaultFact pa c us q rest → FaultFact (many_front wa pa) c us q rest
    many_first_fault c us (Unexpected d) rest h = many_first_mark c us d h
    many_first_fault c us (Broken r) rest h = (h.0, h.1, h.2, in_front (Breaks r) (us ++ h.0 ∷ []) h.3)

    many_more_mark : (x : A) (c : Bool) (us : List L.Token) (d : Bool) (vs : List L.Token) (e : Bool) → wa us x → MarkFact pa c us d → MarkFact (many_front wa pa) d vs e → MarkFact (many_front wa pa) c (us ++ vs) e
    many_more_mark x c us d vs e w f g h = go (g h)
      where
        first : vs ≡ [] → ((us ≡ []) × (c ≡ true)) ⊎ pa Marked us → ((us ++ vs ≡ []) × (c ≡ true)) ⊎ many_front wa pa Marked (us ++ vs)
        first n (inl i) = inl (ends_none us vs n ∙ i.0, i.1)
        first n (inr i) = inr (in_front Marked (us ++ vs) (subst (pa Marked) (sym (ends_none us vs n)) i))

        go : ((vs ≡ []) × (d ≡ true)) ⊎ many_front wa pa Marked vs → ((us ++ vs ≡ []) × (c ≡ true)) ⊎ many_front wa pa Marked (us ++ vs)
        go (inl i) = first i.0 (f i.1)
        go (inr i) = inr (more_front Marked x us vs w i)

    many_more_fault : (x : A) (c : Bool) (us : List L.Token) (d : Bool) (vs : List L.Token) (q : Fault L.Rule) (rest : List L.Token) → wa us x → MarkFact pa c us d → FaultFact (many_front wa pa) d vs q rest → FaultFact (many_front wa pa) c (us ++ vs) q rest
    many_more_fault x c us d vs (Unexpected e) rest w f h = many_more_mark x c us d vs e w f h
    many_more_fault x c us d vs (Broken r) rest w f h = (h.0, h.1, h.2, subst (many_front wa pa (Breaks r)) (sym (append_assoc us vs (h.0 ∷ []))) (more_front (Breaks r) x us (vs ++ h.0 ∷ []) w h.3))

    longer : (ts us mid : List L.Token) → ts ≡ us ++ mid → length mid < length ts → 0 < length us
    longer ts us mid e h = omega (arith, ap length e, length-append us mid)

    turn : (c : Bool) (us : List L.Token) (x : A) (d : Bool) (vs v : List L.Token) (o : Out L (List A)) → 0 < length us → begins_with L s (us ++ (vs ++ v)) ≡ true → ra c (us ++ (vs ++ v)) ≡ Got x d (vs ++ v) → ((m : ℕ) → length (vs ++ v) ≤ m → reads m d (vs ++ v) ≡ o) → (m : ℕ) → length ((us ++ vs) ++ v) ≤ m → reads m c ((us ++ vs) ++ v) ≡ with_first x o
    turn c us x d vs v o n b e h zero le = absurd (omega (arith, le, length-append (us ++ vs) v, length-append us vs))
    turn c us x d vs v o n b e h (suc m) le =
        ap (reads (suc m) c) (append_assoc us vs v) ∙ many_step m c us x d (vs ++ v) b e ∙ ap (with_first x) (h m (omega (arith, le, length-append (us ++ vs) v, length-append us vs, length-append vs v)))

    more_swapped : (c : Bool) (ts : List L.Token) (x : A) (d : Bool) (mid : List L.Token) → begins_with L s ts ≡ true → length mid < length ts → Swapped wa pa ra c ts (Got x d mid) → (o : Out L (List A)) → ManySwapped d mid o → ManySwapped c ts (with_first x o)
    more_swapped c ts x d mid b n h (Got xs e rest) g = (
      h.0 ++ g.0,
      h.1 ∙ ap (λ z. h.0 ++ z) g.1 ∙ sym (append_assoc h.0 g.0 rest),
      (h.0, g.0, refl, h.2, g.2),
      many_more_mark x c h.0 d g.0 e h.2 h.3 g.3,
      λ v al. turn c h.0 x d g.0 v (Got xs e v) (longer ts h.0 mid h.1 n) (begins_kept s ts h.0 mid (g.0 ++ v) h.1 n b)
          (h.4 (g.0 ++ v) (subst (λ m. alike m (g.0 ++ v)) (sym g.1) (alike_front g.0 rest v al))) (g.4 v al),
    )
    more_swapped c ts x d mid b n h (Stop q rest) g = (
      h.0 ++ g.0,
      h.1 ∙ ap (λ z. h.0 ++ z) g.1 ∙ sym (append_assoc h.0 g.0 rest),
      more_front Fine x h.0 g.0 h.2 g.2,
      many_more_fault x c h.0 d g.0 q rest h.2 h.3 g.3,
      λ v al. turn c h.0 x d g.0 v (Stop q v) (longer ts h.0 mid h.1 n) (begins_kept s ts h.0 mid (g.0 ++ v) h.1 n b)
          (h.4 (g.0 ++ v) (subst (λ m. alike m (g.0 ++ v)) (sym g.1) (alike_front g.0 rest v (alike_of q rest v al)))) (g.4 v al),
    )

    some_length : (ts : List L.Token) → begins_with L s ts ≡ true → 0 < length ts
    some_length [] e = absurd (cc)
    some_length (t ∷ ts) e = omega arith

    stopped : (c : Bool) (ts us rest : List L.Token) (q : Fault L.Rule) → begins_with L s ts ≡ true → ts ≡ us ++ rest → Moved L {A = A} ts (Stop q rest) → ((v : List L.Token) → alike_for q rest v → ra c (us ++ v) ≡ Stop q v) → (v : List L.Token) → alike_for q rest v → (m : ℕ) → length (us ++ v) ≤ m → reads m c (us ++ v) ≡ Stop q v
    stopped c ts us rest q b e n h v al zero le = absurd (omega (arith, le, some_length (us ++ v) (stop_kept A s ts us rest v q e n al b)))
    stopped c ts us rest q b e n h v al (suc m) le = many_stop m c (us ++ v) q v (stop_kept A s ts us rest v q e n al b) (h v al)

    one_more : (n : ℕ) (c : Bool) (ts : List L.Token) → length ts ≤ suc n → begins_with L s ts ≡ true → (o : Out L A) → Moved L ts o → Swapped wa pa ra c ts o → ((d : Bool) (us : List L.Token) → length us ≤ n → ManySwapped d us (reads n d us)) → ManySwapped c ts (then_do o (λ x d us. with_first x (reads n d us)))
    one_more n c ts le b (Got x d mid) k h g = more_swapped c ts x d mid b k h (reads n d mid) (g d mid (omega arith))
    one_more n c ts le b (Stop q rest) k h g = (h.0, h.1, in_front Fine h.0 h.2, many_first_fault c h.0 q rest h.3, stopped c ts h.0 rest q b h.1 k h.4)

    many_swapped : (n : ℕ) (c : Bool) (ts : List L.Token) → length ts ≤ n → ManySwapped c ts (reads n c ts)
    many_swapped zero c [] le = none_swapped c [] refl
    many_swapped zero c (t ∷ ts) le = absurd (omega arith)
    many_swapped (suc n) c ts le = by_test n c ts le (λ d us h. many_swapped n d us h) (begins_with L s ts) refl
      where
        by_test : (n : ℕ) (c : Bool) (ts : List L.Token) → length ts ≤ suc n → ((d : Bool) (us : List L.Token) → length us ≤ n → ManySwapped d us (reads n d us)) → (b : Bool) → begins_with L s ts ≡ b → ManySwapped c ts (cond b (then_do (ra c ts) (λ x d us. with_first x (reads n d us))) (Got [] (c || y) ts))
        by_test n c ts le g true e = one_more n c ts le e (ra c ts) (taken c ts e) (each c ts) g
        by_test n c ts le g false e = none_swapped c ts e

    many_swaps : Swaps (many wa) (many_front wa pa) (λ c ts. reads (length ts) c ts)
    many_swaps c ts = go (reads (length ts) c ts) (many_swapped (length ts) c ts (omega arith))
      where
        go : (o : Out L (List A)) → ManySwapped c ts o → Swapped (many wa) (many_front wa pa) (λ c ts. reads (length ts) c ts) c ts o
        go (Got xs e rest) h = (h.0, h.1, h.2, h.3, λ v al. h.4 v al (length (h.0 ++ v)) (omega arith))
        go (Stop q rest) h = (h.0, h.1, h.2, h.3, λ v al. h.4 v al (length (h.0 ++ v)) (omega arith))

  -- of parts that are asked for by the tree so far

  module _ {A : Type 0} (s : A → List L.Kind) (y : A → Bool) (wa : A → Sentence L.Token A) (pa : A → Prefixes L) (ra : A → Read L A) (begins_mark : (z : A) → y z ≡ true → pa z Marked []) (taken : (z : A) → Moves L (s z) (ra z)) (each : (z : A) → Swaps (wa z) (pa z) (ra z)) where
    abbrev grows : ℕ → A → Read L A
    grows n z = read_growth s y ra n z

    abbrev GrowthSwapped : A → Bool → List L.Token → Out L A → Type 0
    GrowthSwapped z c ts (Got x e rest) = (us : List L.Token) × (ts ≡ us ++ rest) × growth wa z us x × MarkFact (growth_front wa pa z) c us e × ((v : List L.Token) → alike rest v → (m : ℕ) → length (us ++ v) ≤ m → grows m z c (us ++ v) ≡ Got x e v)
    GrowthSwapped z c ts (Stop q rest) = (us : List L.Token) × (ts ≡ us ++ rest) × growth_front wa pa z Fine us × FaultFact (growth_front wa pa z) c us q rest × ((v : List L.Token) → alike_for q rest v → (m : ℕ) → length (us ++ v) ≤ m → grows m z c (us ++ v) ≡ Stop q v)

    growth_none : (m : ℕ) (z : A) (c : Bool) (v : List L.Token) → begins_with L (s z) v ≡ false → grows m z c v ≡ Got z (c || y z) v
    growth_none zero z c v e = refl
    growth_none (suc m) z c v e = rw e refl

    growth_step : (m : ℕ) (z : A) (c : Bool) (us : List L.Token) (x : A) (d : Bool) (vs : List L.Token) → begins_with L (s z) (us ++ vs) ≡ true → ra z c (us ++ vs) ≡ Got x d vs → grows (suc m) z c (us ++ vs) ≡ grows m x d vs
    growth_step m z c us x d vs e f = rw (e, f) refl

    growth_stop : (m : ℕ) (z : A) (c : Bool) (ts : List L.Token) (q : Fault L.Rule) (v : List L.Token) → begins_with L (s z) ts ≡ true → ra z c ts ≡ Stop q v → grows (suc m) z c ts ≡ Stop q v
    growth_stop m z c ts q v e f = rw (e, f) refl

    none_grown : (z : A) (c : Bool) (ts : List L.Token) → begins_with L (s z) ts ≡ false → GrowthSwapped z c ts (Got z (c || y z) ts)
    none_grown z c ts e = ([], refl, ([], refl, refl), or_mark (growth_front wa pa z) c (y z) [] refl (λ h. ([], [], [], refl, refl, begins_mark z h)), λ v al m le. growth_none m z c v (alike_not (s z) ts v al e))

    first_grown : (k : Ending L) (z : A) (us : List L.Token) → pa z k us → growth_front wa pa z k us
    first_grown k z us h = ([], [], us, refl, refl, h)

    next_grown : (k : Ending L) (z x : A) (us vs : List L.Token) → wa z us x → growth_front wa pa x k vs → growth_front wa pa z k (us ++ vs)
    next_grown k z x us vs w h = (x ∷ h.0, us ++ h.1, h.2, ap (λ q. us ++ q) h.3 ∙ sym (append_assoc us h.1 h.2), (us, h.1, refl, w, h.4), h.5)

    growth_first_mark : (z : A) (c : Bool) (us : List L.Token) (d : Bool) → MarkFact (pa z) c us d → MarkFact (growth_front wa pa z) c us d
    growth_first_mark z c us d h e = go (h e)
      where
        go : ((us ≡ []) × (c ≡ true)) ⊎ pa z Marked us → ((us ≡ []) × (c ≡ true)) ⊎ growth_front wa pa z Marked us
        go (inl i) = inl i
        go (inr i) = inr (first_grown Marked z us i)

    growth_first_fault : (z : A) (c : Bool) (us : List L.Token) (q : Fault L.Rule) (rest : List L.Token) → FaultFact (pa z) c us q rest → FaultFact (growth_front wa pa z) c us q rest
    growth_first_fault z c us (Unexpected d) rest h = growth_first_mark z c us d h
    growth_first_fault z c us (Broken r) rest h = (h.0, h.1, h.2, first_grown (Breaks r) z (us ++ h.0 ∷ []) h.3)

    growth_more_mark : (z x : A) (c : Bool) (us : List L.Token) (d : Bool) (vs : List L.Token) (e : Bool) → wa z us x → MarkFact (pa z) c us d → MarkFact (growth_front wa pa x) d vs e → MarkFact (growth_front wa pa z) c (us ++ vs) e
    growth_more_mark z x c us d vs e w f g h = go (g h)
      where
        first : vs ≡ [] → ((us ≡ []) × (c ≡ true)) ⊎ pa z Marked us → ((us ++ vs ≡ []) × (c ≡ true)) ⊎ growth_front wa pa z Marked (us ++ vs)
        first n (inl i) = inl (ends_none us vs n ∙ i.0, i.1)
        first n (inr i) = inr (first_grown Marked z (us ++ vs) (subst (pa z Marked) (sym (ends_none us vs n)) i))

        go : ((vs ≡ []) × (d ≡ true)) ⊎ growth_front wa pa x Marked vs → ((us ++ vs ≡ []) × (c ≡ true)) ⊎ growth_front wa pa z Marked (us ++ vs)
        go (inl i) = first i.0 (f i.1)
        go (inr i) = inr (next_grown Marked z x us vs w i)

    growth_more_fault : (z x : A) (c : Bool) (us : List L.Token) (d : Bool) (vs : List L.Token) (q : Fault L.Rule) (rest : List L.Token) → wa z us x → MarkFact (pa z) c us d → FaultFact (growth_front wa pa x) d vs q rest → FaultFact (growth_front wa pa z) c (us ++ vs) q rest
    growth_more_fault z x c us d vs (Unexpected e) rest w f h = growth_more_mark z x c us d vs e w f h
    growth_more_fault z x c us d vs (Broken r) rest w f h = (h.0, h.1, h.2, subst (growth_front wa pa z (Breaks r)) (sym (append_assoc us vs (h.0 ∷ []))) (next_grown (Breaks r) z x us (vs ++ h.0 ∷ []) w h.3))

    growth_longer : (ts us mid : List L.Token) → ts ≡ us ++ mid → length mid < length ts → 0 < length us
    growth_longer ts us mid e h = omega (arith, ap length e, length-append us mid)

    growth_turn : (z : A) (c : Bool) (us : List L.Token) (x : A) (d : Bool) (vs v : List L.Token) (o : Out L A) → 0 < length us → begins_with L (s z) (us ++ (vs ++ v)) ≡ true → ra z c (us ++ (vs ++ v)) ≡ Got x d (vs ++ v) → ((m : ℕ) → length (vs ++ v) ≤ m → grows m x d (vs ++ v) ≡ o) → (m : ℕ) → length ((us ++ vs) ++ v) ≤ m → grows m z c ((us ++ vs) ++ v) ≡ o
    growth_turn z c us x d vs v o n b e h zero le = absurd (omega (arith, le, length-append (us ++ vs) v, length-append us vs))
    growth_turn z c us x d vs v o n b e h (suc m) le =
        ap (grows (suc m) z c) (append_assoc us vs v) ∙ growth_step m z c us x d (vs ++ v) b e ∙ h m (omega (arith, le, length-append (us ++ vs) v, length-append us vs, length-append vs v))

    more_grown : (z : A) (c : Bool) (ts : List L.Token) (x : A) (d : Bool) (mid : List L.Token) → begins_with L (s z) ts ≡ true → length mid < length ts → Swapped (wa z) (pa z) (ra z) c ts (Got x d mid) → (o : Out L A) → GrowthSwapped x d mid o → GrowthSwapped z c ts o
    more_grown z c ts x d mid b n h (Got q e rest) g = (
      h.0 ++ g.0,
      h.1 ∙ ap (λ w. h.0 ++ w) g.1 ∙ sym (append_assoc h.0 g.0 rest),
      (x ∷ g.2.0, g.2.1, (h.0, g.0, refl, h.2, g.2.2)),
      growth_more_mark z x c h.0 d g.0 e h.2 h.3 g.3,
      λ v al. growth_turn z c h.0 x d g.0 v (Got q e v) (growth_longer ts h.0 mid h.1 n) (begins_kept (s z) ts h.0 mid (g.0 ++ v) h.1 n b)
          (h.4 (g.0 ++ v) (subst (λ m. alike m (g.0 ++ v)) (sym g.1) (alike_front g.0 rest v al))) (g.4 v al),
    )
    more_grown z c ts x d mid b n h (Stop q rest) g = (
      h.0 ++ g.0,
      h.1 ∙ ap (λ w. h.0 ++ w) g.1 ∙ sym (append_assoc h.0 g.0 rest),
      next_grown Fine z x h.0 g.0 h.2 g.2,
      growth_more_fault z x c h.0 d g.0 q rest h.2 h.3 g.3,
      λ v al. growth_turn z c h.0 x d g.0 v (Stop q v) (growth_longer ts h.0 mid h.1 n) (begins_kept (s z) ts h.0 mid (g.0 ++ v) h.1 n b)
          (h.4 (g.0 ++ v) (subst (λ m. alike m (g.0 ++ v)) (sym g.1) (alike_front g.0 rest v (alike_of q rest v al)))) (g.4 v al),
    )

    some_begun : (z : A) (ts : List L.Token) → begins_with L (s z) ts ≡ true → 0 < length ts
    some_begun z [] e = absurd (cc)
    some_begun z (t ∷ ts) e = omega arith

    growth_stopped : (z : A) (c : Bool) (ts us rest : List L.Token) (q : Fault L.Rule) → begins_with L (s z) ts ≡ true → ts ≡ us ++ rest → Moved L {A = A} ts (Stop q rest) → ((v : List L.Token) → alike_for q rest v → ra z c (us ++ v) ≡ Stop q v) → (v : List L.Token) → alike_for q rest v → (m : ℕ) → length (us ++ v) ≤ m → grows m z c (us ++ v) ≡ Stop q v
    growth_stopped z c ts us rest q b e n h v al zero le = absurd (omega (arith, le, some_begun z (us ++ v) (stop_kept A (s z) ts us rest v q e n al b)))
    growth_stopped z c ts us rest q b e n h v al (suc m) le = growth_stop m z c (us ++ v) q v (stop_kept A (s z) ts us rest v q e n al b) (h v al)

    one_grown : (n : ℕ) (z : A) (c : Bool) (ts : List L.Token) → length ts ≤ suc n → begins_with L (s z) ts ≡ true → (o : Out L A) → Moved L ts o → Swapped (wa z) (pa z) (ra z) c ts o → ((x : A) (d : Bool) (us : List L.Token) → length us ≤ n → GrowthSwapped x d us (grows n x d us)) → GrowthSwapped z c ts (then_do o (λ x d us. grows n x d us))
    one_grown n z c ts le b (Got x d mid) k h g = more_grown z c ts x d mid b k h (grows n x d mid) (g x d mid (omega arith))
    one_grown n z c ts le b (Stop q rest) k h g = (h.0, h.1, first_grown Fine z h.0 h.2, growth_first_fault z c h.0 q rest h.3, growth_stopped z c ts h.0 rest q b h.1 k h.4)

    growth_swapped : (n : ℕ) (z : A) (c : Bool) (ts : List L.Token) → length ts ≤ n → GrowthSwapped z c ts (grows n z c ts)
    growth_swapped zero z c [] le = none_grown z c [] refl
    growth_swapped zero z c (t ∷ ts) le = absurd (omega arith)
    growth_swapped (suc n) z c ts le = by_test n z c ts le (λ x d us h. growth_swapped n x d us h) (begins_with L (s z) ts) refl
      where
        by_test : (n : ℕ) (z : A) (c : Bool) (ts : List L.Token) → length ts ≤ suc n → ((x : A) (d : Bool) (us : List L.Token) → length us ≤ n → GrowthSwapped x d us (grows n x d us)) → (b : Bool) → begins_with L (s z) ts ≡ b → GrowthSwapped z c ts (cond b (then_do (ra z c ts) (λ x d us. grows n x d us)) (Got z (c || y z) ts))
        by_test n z c ts le g true e = one_grown n z c ts le e (ra z c ts) (taken z c ts e) (each z c ts) g
        by_test n z c ts le g false e = none_grown z c ts e

    growth_swaps : (z : A) → Swaps (growth wa z) (growth_front wa pa z) (λ c ts. grows (length ts) z c ts)
    growth_swaps z c ts = go (grows (length ts) z c ts) (growth_swapped (length ts) z c ts (omega arith))
      where
        go : (o : Out L A) → GrowthSwapped z c ts o → Swapped (growth wa z) (growth_front wa pa z) (λ c ts. grows (length ts) z c ts) c ts o
        go (Got x e rest) h = (h.0, h.1, h.2, h.3, λ v al. h.4 v al (length (h.0 ++ v)) (omega arith))
        go (Stop q rest) h = (h.0, h.1, h.2, h.3, λ v al. h.4 v al (length (h.0 ++ v)) (omega arith))

  -- of every grammar

  nullable_derives : {A : Type 0} (g : Grammar L A) → nullable g ≡ true → (x : A) × Derives g [] x
  nullable_derives (nothing x) e = (x, (refl, refl))
  nullable_derives (tok s p) e = absurd (cc)
  nullable_derives (seq a b) e = let h = and_cases (nullable a) (nullable b) e in let i = nullable_derives a h.0 in let j = nullable_derives b h.1 in ((i.0, j.0), ([], [], refl, i.1, j.1))
  nullable_derives (alt a b) e = go (or_cases (nullable a) (nullable b) e) (λ h. nullable_derives a h) (λ h. nullable_derives b h)
    where
      go : (nullable a ≡ true) ⊎ (nullable b ≡ true) → (nullable a ≡ true → (x : _) × Derives a [] x) → (nullable b ≡ true → (x : _) × Derives b [] x) → (x : _) × (Derives a [] x ⊎ Derives b [] x)
      go (inl h) f g = let i = f h in (i.0, inl i.1)
      go (inr h) f g = let i = g h in (i.0, inr i.1)
  nullable_derives (opt a) e = (None, refl)
  nullable_derives (rep a) e = ([], refl)
  nullable_derives (as_tree f a) e = let i = nullable_derives a e in (f i.0, (i.0, i.1, refl))
  nullable_derives (dep a s f) e = absurd (cc)
  nullable_derives (grow x s f) e = (x, ([], refl, refl))
  nullable_derives (marked a) e = nullable_derives a e

  marks_front : {A : Type 0} (g : Grammar L A) → marks g ≡ true → Front g Marked []
  marks_front (nothing x) e = absurd (cc)
  marks_front (tok s p) e = absurd (cc)
  marks_front (seq a b) e = go (or_cases (marks a) (nullable a && marks b) e) (λ h. marks_front a h) (λ h. marks_front b h)
    where
      go : (marks a ≡ true) ⊎ ((nullable a && marks b) ≡ true) → (marks a ≡ true → Front a Marked []) → (marks b ≡ true → Front b Marked []) → Front (seq a b) Marked []
      go (inl h) f g = inl (f h)
      go (inr h) f g = let i = and_cases (nullable a) (marks b) h in let j = nullable_derives a i.0 in inr (j.0, [], [], refl, j.1, g i.1)
  marks_front (alt a b) e = go (or_cases (marks a) (marks b) e) (λ h. marks_front a h) (λ h. marks_front b h)
    where
      go : (marks a ≡ true) ⊎ (marks b ≡ true) → (marks a ≡ true → Front a Marked []) → (marks b ≡ true → Front b Marked []) → Front (alt a b) Marked []
      go (inl h) f g = inl (f h)
      go (inr h) f g = inr (g h)
  marks_front (opt a) e = marks_front a e
  marks_front (rep a) e = ([], [], [], refl, refl, marks_front a e)
  marks_front (as_tree f a) e = marks_front a e
  marks_front (dep a s f) e = inl (marks_front a e)
  marks_front (grow x s f) e = ([], [], [], refl, refl, marks_front (f x) e)
  marks_front (marked a) e = inl refl

  here_swaps : {A : Type 0} (wa : Sentence L.Token A) (pa : Prefixes L) (ra : Read L A) → Swaps wa pa ra → Swaps wa (λ m ts. mark_front m ts ⊎ pa m ts) (λ c ts. ra true ts)
  here_swaps {A} wa pa ra h c ts = go (ra true ts) (h true ts)
    where
      here : (us : List L.Token) (d : Bool) → MarkFact pa true us d → MarkFact (λ m ts. mark_front m ts ⊎ pa m ts) c us d
      here us d f e = pick (f e)
        where
          pick : ((us ≡ []) × (true ≡ true)) ⊎ pa Marked us → ((us ≡ []) × (c ≡ true)) ⊎ ((us ≡ []) ⊎ pa Marked us)
          pick (inl i) = inr (inl i.0)
          pick (inr i) = inr (inr i)

      here_fault : (us : List L.Token) (q : Fault L.Rule) (rest : List L.Token) → FaultFact pa true us q rest → FaultFact (λ m ts. mark_front m ts ⊎ pa m ts) c us q rest
      here_fault us (Unexpected d) rest f = here us d f
      here_fault us (Broken r) rest f = (f.0, f.1, f.2, inr f.3)

      go : (o : Out L A) → Swapped wa pa ra true ts o → Swapped wa (λ m ts. mark_front m ts ⊎ pa m ts) (λ c ts. ra true ts) c ts o
      go (Got x d rest) g = (g.0, g.1, g.2, here g.0 d g.3, g.4)
      go (Stop q rest) g = (g.0, g.1, inr g.2, here_fault g.0 q rest g.3, g.4)

  pub swaps : {A : Type 0} (g : Grammar L A) → LL1 g → Swaps (Derives g) (Front g) (read g)
  swaps (nothing x) p = λ c ts. ([], refl, (refl, refl), (λ e. inl (refl, e)), λ v al. refl)
  swaps (tok s q) p = one_swaps s q
  swaps (seq a b) p = both_swaps (Derives a) (Front a) (read a) (λ _. Derives b) (λ _. Front b) (λ _. read b) (swaps a p.0) (λ _. swaps b p.1)
  swaps (alt a b) p = either_swaps (firsts a) (marks a) (Derives a) (Front a) (read a) (marks_front a) (Derives b) (Front b) (read b) (moves L a p.0) (swaps a p.0) (swaps b p.1)
  swaps (opt a) p = maybe_swaps (firsts a) (marks a) (Derives a) (Front a) (read a) (marks_front a) (moves L a p.0) (swaps a p.0)
  swaps (rep a) p = many_swaps (firsts a) (marks a) (Derives a) (Front a) (read a) (marks_front a) (moves L a p.0) (swaps a p.0)
  swaps (as_tree f a) p = tree_swaps (Derives a) (Front a) (read a) f (swaps a p)
  swaps (dep a s f) p = both_swaps (Derives a) (Front a) (read a) (λ x. Derives (f x)) (λ x. Front (f x)) (λ x. read (f x)) (swaps a p.0) (λ x. swaps (f x) (p.2 x).0)
  swaps (grow x s f) p = growth_swaps (λ z. firsts (f z)) (λ z. marks (f z)) (λ z. Derives (f z)) (λ z. Front (f z)) (λ z. read (f z)) (λ z. marks_front (f z)) (λ z. moves L (f z) (p z).0) (λ z. swaps (f z) (p z).0) x
  swaps (marked a) p = here_swaps (Derives a) (Front a) (read a) (swaps a p)
