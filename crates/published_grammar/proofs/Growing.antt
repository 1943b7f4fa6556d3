-- Phis and then instructions, as two repetitions and as one part that grows.
use Rattle.std.proofs.Common.{◌≡◌, List, [], ◌∷◌, ◌++◌, inl, inr, refl, sym, ap, ◌∙◌, subst, append_assoc}
use Rattle.std.proofs.lemmas.List.{append-nil}
use Rattle.grammar.specs.Grammar.{Grammar, seq, alt, rep, as_tree, grow}
use Rattle.grammar.specs.Language.{Derives, Ending, Front, many, steps, last_of}
use Rattle.ir_tokens.specs.declared.token.Token.{Token}
use Rattle.ir_tokens.specs.Tokens.{tokens}
use Rattle.ir_grammar.specs.declared.tree.LineSyntax.{LineSyntax}
use Rattle.ir_grammar.specs.declared.tree.LinesSyntax.{LinesSyntax}
use Rattle.ir_grammar.specs.declared.tree.PhiSyntax.{PhiSyntax}
use Rattle.ir_grammar.specs.Blocks.{no_lines, line_kinds}
use Rattle.published_grammar.proofs.Algebra.{Same}

-- lines
abbrev pub held : List PhiSyntax → List LineSyntax → LinesSyntax
held ps js = record { phis = ps; insts = js }

abbrev pub push_phi : LinesSyntax → PhiSyntax → LinesSyntax
push_phi lines p = held (lines.phis ++ p ∷ []) lines.insts

abbrev pub push_inst : LinesSyntax → LineSyntax → LinesSyntax
push_inst lines j = held lines.phis (lines.insts ++ j ∷ [])

-- one more line: a phi only where no instruction stands before it
abbrev pub next_in : Grammar tokens PhiSyntax → Grammar tokens LineSyntax → List LineSyntax → LinesSyntax → Grammar tokens LinesSyntax
next_in phi inst [] lines = alt (as_tree (push_phi lines) phi) (as_tree (push_inst lines) inst)
next_in phi inst (i ∷ is) lines = as_tree (push_inst lines) inst

abbrev pub next : Grammar tokens PhiSyntax → Grammar tokens LineSyntax → LinesSyntax → Grammar tokens LinesSyntax
next phi inst lines = next_in phi inst lines.insts lines

abbrev pub two_lists : Grammar tokens PhiSyntax → Grammar tokens LineSyntax → Grammar tokens LinesSyntax
two_lists phi inst = as_tree (λ (ps, is). record { phis = ps; insts = is }) (seq (rep phi) (rep inst))

module _ (phi : Grammar tokens PhiSyntax) (inst : Grammar tokens LineSyntax) where
  abbrev Steps : LinesSyntax → List LinesSyntax → List Token → Type 0
  Steps = steps (λ y. Derives (next phi inst y))

  -- from growing lines to lists

  abbrev Insts : List PhiSyntax → List LineSyntax → List Token → LinesSyntax → Type 0
  Insts ps is ts z = (js : List LineSyntax) × many (Derives inst) ts js × (z ≡ held ps (is ++ js))

  insts_only : (ps : List PhiSyntax) (i : LineSyntax) (is : List LineSyntax) (ys : List LinesSyntax) (ts : List Token) → Steps (held ps (i ∷ is)) ys ts → Insts ps (i ∷ is) ts (last_of (held ps (i ∷ is)) ys)
  insts_only ps i is [] ts e = ([], e, ap (λ l. held ps l) (sym (append-nil (i ∷ is))))
  insts_only ps i is (y ∷ ys) ts (us, vs, e, (j, d, k), r) =
      let n = insts_only ps i (is ++ j ∷ []) ys vs (subst (λ z. Steps z ys vs) k r) in
      (j ∷ n.0, (us, vs, e, d, n.1), ap (λ z. last_of z ys) k ∙ n.2 ∙ ap (λ l. held ps (i ∷ l)) (append_assoc is (j ∷ []) n.0))

  abbrev Lists : List PhiSyntax → List Token → LinesSyntax → Type 0
  Lists ps ts z = (qs : List PhiSyntax) × (js : List LineSyntax) × (us vs : List Token) × (ts ≡ us ++ vs) × many (Derives phi) us qs × many (Derives inst) vs js × (z ≡ held (ps ++ qs) js)

  lists : (ps : List PhiSyntax) (ys : List LinesSyntax) (ts : List Token) → Steps (held ps []) ys ts → Lists ps ts (last_of (held ps []) ys)
  lists ps [] ts e = ([], [], [], [], e, refl, refl, ap (λ l. held l []) (sym (append-nil ps)))
  lists ps (y ∷ ys) ts (us, vs, e, inl (p, d, k), r) =
      let n = lists (ps ++ p ∷ []) ys vs (subst (λ z. Steps z ys vs) k r) in
      (p ∷ n.0, n.1, us ++ n.2, n.3, e ∙ ap (λ l. us ++ l) n.4 ∙ sym (append_assoc us n.2 n.3), (us, n.2, refl, d, n.5), n.6, ap (λ z. last_of z ys) k ∙ n.7 ∙ ap (λ l. held l n.1) (append_assoc ps (p ∷ []) n.0))
  lists ps (y ∷ ys) ts (us, vs, e, inr (j, d, k), r) =
      let n = insts_only ps j [] ys vs (subst (λ z. Steps z ys vs) k r) in
      ([], j ∷ n.0, [], ts, refl, refl, (us, vs, e, d, n.1), ap (λ z. last_of z ys) k ∙ n.2 ∙ ap (λ l. held l (j ∷ n.0)) (sym (append-nil ps)))

  there : (ts : List Token) (z : LinesSyntax) → Derives (grow no_lines line_kinds (next phi inst)) ts z → Derives (two_lists phi inst) ts z
  there ts z (ys, e, r) = let n = lists [] ys ts r in ((n.0, n.1), (n.2, n.3, n.4, n.5, n.6), e ∙ n.7)

  next_front : (m : Ending tokens) (ts us vs ws : List Token) (ps : List PhiSyntax) (js : List LineSyntax) → ts ≡ us ++ (vs ++ ws) → many (Derives phi) us ps → many (Derives inst) vs js → Front (next_in phi inst js (held ps js)) m ws → Front (seq (rep phi) (rep inst)) m ts
  next_front m ts us vs ws ps [] e p i (inl w) = inl (ps, us, ws, e ∙ ap (λ l. us ++ (l ++ ws)) i, p, w)
  next_front m ts us vs ws ps [] e p i (inr w) = inr (ps, us, vs ++ ws, e, p, ([], vs, ws, refl, i, w))
  next_front m ts us vs ws ps (j ∷ js) e p i w = inr (ps, us, vs ++ ws, e, p, (j ∷ js, vs, ws, refl, i, w))

  there_front : (m : Ending tokens) (ts : List Token) → Front (grow no_lines line_kinds (next phi inst)) m ts → Front (seq (rep phi) (rep inst)) m ts
  there_front m ts (ys, us, vs, e, r, w) =
      let n = lists [] ys us r in
      next_front m ts n.2 n.3 vs n.0 n.1 (e ∙ ap (λ l. l ++ vs) n.4 ∙ append_assoc n.2 n.3 vs) n.5 n.6 (subst (λ z. Front (next phi inst z) m vs) n.7 w)

  -- and back

  push_derives : (ps : List PhiSyntax) (is : List LineSyntax) (ts : List Token) (j : LineSyntax) → Derives inst ts j → Derives (next phi inst (held ps is)) ts (held ps (is ++ j ∷ []))
  push_derives ps [] ts j w = inr (j, w, refl)
  push_derives ps (i ∷ is) ts j w = (j, w, refl)

  push_front : (z : LinesSyntax) (m : Ending tokens) (ts : List Token) → Front inst m ts → Front (next_in phi inst z.insts z) m ts
  push_front z m ts w = go z.insts
    where
      go : (is : List LineSyntax) → Front (next_in phi inst is z) m ts
      go [] = inr w
      go (i ∷ is) = w

  abbrev Grown : LinesSyntax → List Token → LinesSyntax → Type 0
  Grown x ts z = (ys : List LinesSyntax) × (last_of x ys ≡ z) × Steps x ys ts

  insts_grow : (ps : List PhiSyntax) (is js : List LineSyntax) (ts : List Token) → many (Derives inst) ts js → Grown (held ps is) ts (held ps (is ++ js))
  insts_grow ps is [] ts e = ([], ap (λ l. held ps l) (sym (append-nil is)), e)
  insts_grow ps is (j ∷ js) ts (us, vs, e, d, r) =
      let n = insts_grow ps (is ++ j ∷ []) js vs r in
      (held ps (is ++ j ∷ []) ∷ n.0, n.1 ∙ ap (λ l. held ps l) (append_assoc is (j ∷ []) js), (us, vs, e, push_derives ps is us j d, n.2))

  lists_grow : (ps qs : List PhiSyntax) (js : List LineSyntax) (ts us vs : List Token) → ts ≡ us ++ vs → many (Derives phi) us qs → many (Derives inst) vs js → Grown (held ps []) ts (held (ps ++ qs) js)
  lists_grow ps [] js ts us vs e p i =
      let n = insts_grow ps [] js vs i in
      (n.0, n.1 ∙ ap (λ l. held l js) (sym (append-nil ps)), subst (Steps (held ps []) n.0) (sym (e ∙ ap (λ l. l ++ vs) p)) n.2)
  lists_grow ps (q ∷ qs) js ts us vs e (gs, hs, k, d, p) i =
      let n = lists_grow (ps ++ q ∷ []) qs js (hs ++ vs) hs vs refl p i in
      (held (ps ++ q ∷ []) [] ∷ n.0, n.1 ∙ ap (λ l. held l js) (append_assoc ps (q ∷ []) qs), (gs, hs ++ vs, e ∙ ap (λ l. l ++ vs) k ∙ append_assoc gs hs vs, inl (q, d, refl), n.2))

  back : (ts : List Token) (z : LinesSyntax) → Derives (two_lists phi inst) ts z → Derives (grow no_lines line_kinds (next phi inst)) ts z
  back ts z (p, (us, vs, e, w, v), i) = let n = lists_grow [] p.0 p.1 ts us vs e w v in (n.0, i ∙ sym n.1, n.2)

  back_front : (m : Ending tokens) (ts : List Token) → Front (seq (rep phi) (rep inst)) m ts → Front (grow no_lines line_kinds (next phi inst)) m ts
  back_front m ts (inl (ps, us, vs, e, p, w)) =
      let n = lists_grow [] ps [] us us [] (sym (append-nil us)) p refl in
      (n.0, us, vs, e, n.2, subst (λ z. Front (next phi inst z) m vs) (sym n.1) (inl w))
  back_front m ts (inr (ps, us, vs, e, p, (js, ws, xs, i, q, w))) =
      let n = lists_grow [] ps js (us ++ ws) us ws refl p q in
      (n.0, us ++ ws, xs, e ∙ ap (λ l. us ++ l) i ∙ sym (append_assoc us ws xs), n.2, push_front (last_of (held [] []) n.0) m xs w)

  pub one_growing : Same (two_lists phi inst) (grow no_lines line_kinds (next phi inst))
  one_growing = record { there = record { sentences = back; fronts = back_front }; back = record { sentences = there; fronts = there_front } }
