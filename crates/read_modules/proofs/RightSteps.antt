-- The steps of a body: each is right, results are counted up, and each definition is new.
use Rattle.std.specs.Prelude.{nat_lt, slice_get, is_some}
use Rattle.std.specs.Option.{option_to_list}
use Rattle.std.proofs.Common.{◌≡◌, ℕ, ◌+◌, Bool, true, false, not, ◌&&◌, ◌||◌, Option, None, Some, List, [], ◌∷◌, ◌++◌, length, map, refl, sym, subst}
use Rattle.std.specs.List.{list_all, flat_map}
use Rattle.std.proofs.lemmas.Bool.{and_from, lt-ltb, eq-eqb}
use Rattle.std.proofs.lemmas.List.{append_assoc}
use Rattle.std.proofs.lemmas.List.Concat.{flat_map-append}
use Rattle.std.proofs.lemmas.Option.{slice_get_within}
use Rattle.ir_values.specs.Calls.{same_words, same_word, word_code}
use Rattle.ir_values.specs.declared.ids.BlockId.{BlockId}
use Rattle.ir_values.specs.declared.ids.LocalId.{LocalId}
use Rattle.ir_values.specs.declared.name.Name.{Name}
use Rattle.ir_values.specs.declared.sig.TyWord.{TyWord}
use Rattle.ir_values.specs.declared.ty.Ty.{Ty}
use Rattle.ir_values.specs.Types.{words_of}
use Rattle.ir_module.specs.declared.tree.Function.{Function}
use Rattle.ir_module.specs.declared.tree.Module.{Module}
use Rattle.ir_module.specs.declared.tree.Operand.{Operand}
use Rattle.ir_module.specs.declared.tree.Term.{Term}
use Rattle.ir_module.specs.Numbered.{step_in_range, is_written, flags_allowed, on_integers, has_result, not_void, calls_whole, is_void, type_passes, is_call}
use Rattle.ir_module.specs.Operands.{step_operands, step_defines}
use Rattle.ir_module.specs.Printable.{step_fits, same_type, result_type, result_fits, has_entry, value_type_fits, operand_fits}
use Rattle.ir_module.specs.Steps.{Step, PhiAt, InstAt, TermAt, steps_of_block}
use Rattle.ir_module.specs.Tree.{blocks_of}
use Rattle.ir_tokens.specs.declared.token.Token.{Token}
use Rattle.ir_grammar.specs.declared.tree.BlockSyntax.{BlockSyntax}
use Rattle.ir_grammar.specs.declared.tree.EntrySyntax.{EntrySyntax}
use Rattle.ir_grammar.specs.declared.tree.InstSyntax.{InstSyntax}
use Rattle.ir_grammar.specs.declared.tree.LineSyntax.{LineSyntax}
use Rattle.ir_grammar.specs.declared.tree.PhiSyntax.{PhiSyntax}
use Rattle.ir_names.specs.Blocks.{name_or, first_token, block_faults, block_of, behind_block, blocks_faults, blocks_of as blocks_named, term_of}
use Rattle.ir_names.specs.Faults.{fault_if}
use Rattle.ir_names.specs.declared.fault.NameCode.TheVariants.{Duplicate}
use Rattle.ir_names.specs.Functions.{type_of, result_locals, line_locals, phi_local, block_locals}
use Rattle.ir_names.specs.Instructions.{duplicate, what_of, result_faults, result_of, behind, line_faults, line_of, lines_faults, insts_of, behind_lines, entry_faults, entry_of, phi_faults, phi_of, phis_faults, phis_of, behind_phis}
use Rattle.ir_names.specs.Operands.{operand_faults}
use Rattle.ir_names.specs.Sense.{Sense}
use Rattle.read_modules.proofs.Each.{Each, Each-append, Each-map, Each-weaker, Each-both, list_all-each, none_left, none_right, none_each}
use Rattle.read_modules.proofs.Scene.{Fair, known_below, Right}
use Rattle.read_modules.proofs.Distinct.{Definition, One, Other, IsNew, AllNew, AllNew-append}
use Rattle.read_modules.proofs.KeptInstructions.{value_fits, not_false, result_is}
use Rattle.read_modules.proofs.KeptBlocks.{EntryKept, PhiKept, IsEntered, NamedOrCall, LineKept, RightTerm, BlockKept}

-- What is right of a step.
pub record RightStep (m : Module) (f : Function) (st : Step) : Type 0 where
  pub in_range : step_in_range m f st ≡ true
  pub written : list_all is_written (step_operands st) ≡ true
  pub flags : flags_allowed st ≡ true
  pub integers : on_integers st ≡ true
  pub named : has_result st ≡ true
  pub solid : not_void f st ≡ true
  pub whole : calls_whole st ≡ true
  pub fits : step_fits f st ≡ true

-- Local names from a number on.

-- these are all locals from v on
abbrev pub Rest : List (Name × Ty) → ℕ → List (Name × Ty) → Type 0
Rest all v [] = v ≡ length all
Rest all v (l ∷ ls) = (slice_get all v ≡ Some l) × Rest all (v + 1) ls

-- the results are v, v + 1, .. and end below w
abbrev pub Counts : ℕ → List LocalId → ℕ → Type 0
Counts v [] w = v ≡ w
Counts v (x ∷ xs) w = (x.0 ≡ v) × Counts (v + 1) xs w

Counts-append : (v : ℕ) (xs : List LocalId) (w : ℕ) (ys : List LocalId) (u : ℕ) → Counts v xs w → Counts w ys u → Counts v (xs ++ ys) u
Counts-append v [] w ys u h k = subst (λ n. Counts n ys u) (sym h) k
Counts-append v (x ∷ xs) w ys u h k = (h.0, Counts-append (v + 1) xs w ys u h.1 k)

-- what steps define
abbrev pub Defines : ℕ → List Step → ℕ → Type 0
Defines v ss w = Counts v (flat_map step_defines ss) w

Defines-append : (v : ℕ) (ss : List Step) (w : ℕ) (ts : List Step) (u : ℕ) → Defines v ss w → Defines w ts u → Defines v (ss ++ ts) u
Defines-append v ss w ts u h k = subst (λ xs. Counts v xs u) (sym (flat_map-append step_defines ss ts)) (Counts-append v (flat_map step_defines ss) w (flat_map step_defines ts) u h k)

-- A test of the type of a local.

pub passes : (test : Ty → Bool) (all : List (Name × Ty)) (v : ℕ) (l : Name × Ty) → slice_get all v ≡ Some l → test l.1 ≡ true → type_passes test (slice_get all v) ≡ true
passes test all v l e h = subst (λ o. type_passes test o ≡ true) (sym e) h

here : (all : List (Name × Ty)) (v : ℕ) (l : Name × Ty) → slice_get all v ≡ Some l → nat_lt v (length all) ≡ true
here all v l e = lt-ltb v (length all) (slice_get_within all v l e)

same_word-self : (w : TyWord) → same_word w w ≡ true
same_word-self w = and_from _ _ (eq-eqb (word_code w).0 (word_code w).0 refl) (eq-eqb (word_code w).1 (word_code w).1 refl)

same_words-self : (ws : List TyWord) → same_words ws ws ≡ true
same_words-self [] = refl
same_words-self (w ∷ ws) = and_from _ _ (same_word-self w) (same_words-self ws)

-- New definitions.

pub no_fault : (b : Bool) (t : Token) → fault_if b Duplicate t ≡ [] → b ≡ false
no_fault true t e = absurd (cc)
no_fault false t e = refl

pub new_name : (s : Sense) (t : Token) (n : Name) (v b : ℕ) → duplicate s t n v b ≡ [] → IsNew s.value s.label v b n
new_name s t n v b e = record { new = no_fault _ t e }

abbrev pub result_definitions : (Token → Name) → Option Token → List Definition
result_definitions name None = []
result_definitions name (Some t) = One (name t) ∷ []

abbrev pub line_definitions : (Token → Name) → LineSyntax → List Definition
line_definitions name l = result_definitions name l.result

abbrev pub phi_definition : (Token → Name) → PhiSyntax → Definition
phi_definition name p = One (name p.result)

abbrev pub block_definitions : (Token → Name) → ℕ → BlockSyntax → List Definition
block_definitions name unnamed k =
    Other (name_or name unnamed k.label) ∷ (map (phi_definition name) k.lines.phis ++ flat_map (line_definitions name) k.lines.insts)

phis_new : (s : Sense) (v b : ℕ) (ps : List PhiSyntax) → phis_faults s v b ps ≡ [] → AllNew s.value s.label v b (map (phi_definition s.name) ps) (behind_phis v ps) b
phis_new s v b [] e = (refl, refl)
phis_new s v b (p ∷ ps) e = (new_name s p.result (s.name p.result) v b (none_left _ _ (none_left (phi_faults s v b p) _ e)), phis_new s (v + 1) b ps (none_right (phi_faults s v b p) _ e))

result_new : (s : Sense) (v b : ℕ) (r : Option Token) → result_faults s v b r ≡ [] → AllNew s.value s.label v b (result_definitions s.name r) (behind v r) b
result_new s v b None e = (refl, refl)
result_new s v b (Some t) e = (new_name s t (s.name t) v b e, (refl, refl))

lines_new : (s : Sense) (v b : ℕ) (ls : List LineSyntax) → lines_faults s v b ls ≡ [] → AllNew s.value s.label v b (flat_map (line_definitions s.name) ls) (behind_lines v ls) b
lines_new s v b [] e = (refl, refl)
lines_new s v b (l ∷ ls) e =
    AllNew-append s.value s.label v b (line_definitions s.name l) (behind v l.result) b (flat_map (line_definitions s.name) ls) (behind_lines (behind v l.result) ls) b
    (result_new s v b l.result (none_left _ _ (none_left (line_faults s v b l) _ e)))
    (lines_new s (behind v l.result) b ls (none_right (line_faults s v b l) _ e))

pub blocks_new : (s : Sense) (unnamed v b : ℕ) (ks : List BlockSyntax) → blocks_faults s unnamed v b ks ≡ [] → (w c : ℕ) × AllNew s.value s.label v b (flat_map (block_definitions s.name unnamed) ks) w c
blocks_new s unnamed v b [] e = (v, b, (refl, refl))
blocks_new s unnamed v b (k ∷ ks) e =
    let own = none_left (block_faults s unnamed v b k) _ e in
    let inner = none_right (duplicate s (first_token k.label k.lines.phis k.lines.insts k.last) (name_or s.name unnamed k.label) v b) _ own in
    let second = none_right (phis_faults s v (b + 1) k.lines.phis) _ inner in
    let more = blocks_new s unnamed (behind_block v k) (b + 1) ks (none_right (block_faults s unnamed v b k) _ e) in (
      more.0,
      more.1,
      AllNew-append s.value s.label v b (block_definitions s.name unnamed k) (behind_block v k) (b + 1) (flat_map (block_definitions s.name unnamed) ks) more.0 more.1 (
        new_name s _ (name_or s.name unnamed k.label) v b (none_left _ _ own),
        AllNew-append s.value s.label v (b + 1) (map (phi_definition s.name) k.lines.phis) (behind_phis v k.lines.phis) (b + 1) (flat_map (line_definitions s.name) k.lines.insts) (behind_block v k) (b + 1)
            (phis_new s v (b + 1) k.lines.phis (none_left _ _ inner))
            (lines_new s (behind_phis v k.lines.phis) (b + 1) k.lines.insts (none_left _ _ second)),
      )
          more.2,
    )

-- Phis.

entered : (s : Sense) (es : List EntrySyntax) → IsEntered es → has_entry (map (entry_of s) es) ≡ true
entered s [] h = absurd h
entered s (e ∷ es) h = refl

-- an entry of a phi of the type t
record RightEntry (m : Module) (f : Function) (t : Ty) (e : Operand × BlockId) : Type 0 where
  value : Right m f t e.0
  from : nat_lt e.1.0 (length (blocks_of f)) ≡ true

-- whether an instruction has a name or is a call, and what it defines
named_right : (s : Sense) (i : InstSyntax) (r : Option Token) (v : ℕ) → NamedOrCall r i → (is_some (result_of v r) || is_call (what_of s i)) ≡ true
named_right s i None v h = h s
named_right s i (Some t) v h = refl

result_right : (f : Function) (s : Sense) (i : InstSyntax) (r : Option Token) (v : ℕ) (rest : List (Name × Ty)) → Rest f.locals v (result_locals s.name i r ++ rest)
    → (list_all (λ x. nat_lt x.0 (length f.locals)) (option_to_list (result_of v r)) ≡ true) × (result_fits f (what_of s i) (result_of v r) ≡ true) × Counts v (option_to_list (result_of v r)) (behind v r) × Rest f.locals (behind v r) rest
result_right f s i None v rest g = (refl, refl, refl, g)
result_right f s i (Some t) v rest g =
    let same : same_type (result_type (what_of s i)) (type_of i) ≡ true = subst (λ t. same_type (result_type (what_of s i)) t ≡ true) (result_is s i) (same_words-self (words_of (result_type (what_of s i)))) in
    (and_from _ _ (here f.locals v _ g.0) refl, passes (same_type (result_type (what_of s i))) f.locals v _ g.0 same, (refl, refl), g.1)

term_right : (m : Module) (f : Function) (t : Term) → RightTerm m f t → RightStep m f (TermAt t)
term_right m f t r = record {
  in_range = and_from _ _ r.in_range (and_from _ _ refl r.targets);
  written = r.written;
  flags = refl;
  integers = r.integers;
  named = refl;
  solid = refl;
  whole = refl;
  fits = r.fits;
}

module _ {spelling : Token → List ℕ} where
  entries_right : (m : Module) (f : Function) (s : Sense) → Fair spelling m f s → (t : Ty) (es : List EntrySyntax) → Each (EntryKept spelling t) es → flat_map (entry_faults s) es ≡ [] → Each (RightEntry m f t) (map (entry_of s) es)
  entries_right m f s fair t es h e = Each-map _ (entry_of s) es (Each-both (EntryKept spelling t) (λ x. entry_faults s x ≡ []) _ (λ x k n. record {
    value = k.operand.right m f s fair (none_left _ _ n);
    from = known_below x.from (s.label (s.name x.from)) _ (fair.labels (s.name x.from)) (none_right (operand_faults s x.value) _ n);
  }) es h (none_each (entry_faults s) es e))

  phi_right : (m : Module) (f : Function) (s : Sense) → Fair spelling m f s → (v b : ℕ) (p : PhiSyntax) → PhiKept spelling p → phi_faults s v b p ≡ [] → slice_get f.locals v ≡ Some (phi_local s.name p) → RightStep m f (PhiAt (phi_of s v p))
  phi_right m f s fair v b p h e g =
      let es = entries_right m f s fair p.ty p.entries h.entries (none_right (duplicate s p.result (s.name p.result) v b) _ e) in
      let l = phi_local s.name p in
      record {
        in_range = and_from _ _ (list_all-each _ _ (Each-map _ (λ x. x.0) (map (entry_of s) p.entries) (Each-weaker _ _ (λ x r. r.value.in_range) _ es)))
            (and_from _ _ (and_from _ _ (here f.locals v l g) refl) (list_all-each _ _ (Each-map _ (λ x. x.1) (map (entry_of s) p.entries) (Each-weaker _ _ (λ x r. r.from) _ es))));
        written = list_all-each _ _ (Each-map _ (λ x. x.0) (map (entry_of s) p.entries) (Each-weaker _ _ (λ x r. r.value.written) _ es));
        flags = refl;
        integers = refl;
        named = refl;
        solid = passes (λ t. not (is_void t)) f.locals v l g (not_false _ h.type.solid);
        whole = refl;
        fits = and_from _ _ (entered s p.entries h.entered)
            (passes (λ t. value_type_fits t && list_all (λ x. operand_fits t x.0) (map (entry_of s) p.entries)) f.locals v l g
            (and_from _ _ (value_fits p.ty h.type) (list_all-each _ _ (Each-weaker _ _ (λ x r. r.value.fits) _ es))));
      }

  phis_right : (m : Module) (f : Function) (s : Sense) → Fair spelling m f s → (v b : ℕ) (ps : List PhiSyntax) (rest : List (Name × Ty)) → Each (PhiKept spelling) ps → phis_faults s v b ps ≡ [] → Rest f.locals v (map (phi_local s.name) ps ++ rest)
      → Each (RightStep m f) (map PhiAt (phis_of s v ps)) × Defines v (map PhiAt (phis_of s v ps)) (behind_phis v ps) × Rest f.locals (behind_phis v ps) rest
  phis_right m f s fair v b [] rest h e g = (tt, refl, g)
  phis_right m f s fair v b (p ∷ ps) rest h e g =
      let more = phis_right m f s fair (v + 1) b ps rest h.1 (none_right (phi_faults s v b p) _ e) g.1 in
      ((phi_right m f s fair v b p h.0 (none_left _ _ e) g.0, more.0), (refl, more.1), more.2)

  -- Instructions.

  line_right : (m : Module) (f : Function) (s : Sense) → Fair spelling m f s → (v b : ℕ) (l : LineSyntax) → LineKept spelling l → line_faults s v b l ≡ [] → (list_all (λ x. nat_lt x.0 (length f.locals)) (option_to_list (result_of v l.result)) ≡ true) → (result_fits f (what_of s l.what) (result_of v l.result) ≡ true) → RightStep m f (InstAt (line_of s v l))
  line_right m f s fair v b l h e d r =
      let k = h.what.right m f s fair (none_right (result_faults s v b l.result) _ e) in
      record {
        in_range = and_from _ _ k.in_range (and_from _ _ d refl);
        written = k.written;
        flags = k.flags;
        integers = k.integers;
        named = named_right s l.what l.result v h.named;
        solid = k.solid;
        whole = k.whole;
        fits = and_from _ _ k.fits r;
      }

  lines_right : (m : Module) (f : Function) (s : Sense) → Fair spelling m f s → (v b : ℕ) (ls : List LineSyntax) (rest : List (Name × Ty)) → Each (LineKept spelling) ls → lines_faults s v b ls ≡ [] → Rest f.locals v (flat_map (line_locals s.name) ls ++ rest)
      → Each (RightStep m f) (map InstAt (insts_of s v ls)) × Defines v (map InstAt (insts_of s v ls)) (behind_lines v ls) × Rest f.locals (behind_lines v ls) rest
  lines_right m f s fair v b [] rest h e g = (tt, refl, g)
  lines_right m f s fair v b (l ∷ ls) rest h e g =
      let g' = subst (Rest f.locals v) (append_assoc (line_locals s.name l) (flat_map (line_locals s.name) ls) rest) g in
      let r = result_right f s l.what l.result v (flat_map (line_locals s.name) ls ++ rest) g' in
      let more = lines_right m f s fair (behind v l.result) b ls rest h.1 (none_right (line_faults s v b l) _ e) r.3 in (
        (line_right m f s fair v b l h.0 (none_left _ _ e) r.0 r.1, more.0),
        Counts-append v (option_to_list (result_of v l.result)) (behind v l.result) _ _ r.2 more.1,
        more.2,
      )

  -- Blocks.

  pub blocks_right : (m : Module) (f : Function) (s : Sense) → Fair spelling m f s → (unnamed v b : ℕ) (ks : List BlockSyntax) → Each (BlockKept spelling) ks → blocks_faults s unnamed v b ks ≡ [] → Rest f.locals v (flat_map (block_locals s.name) ks)
      → Each (RightStep m f) (flat_map steps_of_block (blocks_named s unnamed v ks)) × Defines v (flat_map steps_of_block (blocks_named s unnamed v ks)) (length f.locals)
  blocks_right m f s fair unnamed v b [] h e g = (tt, g)
  blocks_right m f s fair unnamed v b (k ∷ ks) h e g =
      let own = none_left (block_faults s unnamed v b k) _ e in
      let inner = none_right (duplicate s (first_token k.label k.lines.phis k.lines.insts k.last) (name_or s.name unnamed k.label) v b) _ own in
      let second = none_right (phis_faults s v (b + 1) k.lines.phis) _ inner in
      let third = none_right (lines_faults s (behind_phis v k.lines.phis) (b + 1) k.lines.insts) _ second in
      let later = flat_map (block_locals s.name) ks in
      let g' = subst (Rest f.locals v) (append_assoc (map (phi_local s.name) k.lines.phis) (flat_map (line_locals s.name) k.lines.insts) later) g in
      let ps = phis_right m f s fair v (b + 1) k.lines.phis (flat_map (line_locals s.name) k.lines.insts ++ later) h.0.lines.phis (none_left _ _ inner) g' in
      let ls = lines_right m f s fair (behind_phis v k.lines.phis) (b + 1) k.lines.insts later h.0.lines.insts (none_left _ _ second) ps.2 in
      let t = term_right m f (term_of s k.term) (h.0.term.right m f s fair third) in
      let more = blocks_right m f s fair unnamed (behind_block v k) (b + 1) ks h.1 (none_right (block_faults s unnamed v b k) _ e) ls.2 in (
        Each-append _ (steps_of_block (block_of s unnamed v k)) _ (Each-append _ (map PhiAt (phis_of s v k.lines.phis)) _ ps.0 (Each-append _ (map InstAt (insts_of s (behind_phis v k.lines.phis) k.lines.insts)) _ ls.0 (t, tt))) more.0,
        Defines-append v (steps_of_block (block_of s unnamed v k)) (behind_block v k) _ (length f.locals)
            (Defines-append v (map PhiAt (phis_of s v k.lines.phis)) (behind_phis v k.lines.phis) _ (behind_block v k) ps.1 (Defines-append (behind_phis v k.lines.phis) (map InstAt (insts_of s (behind_phis v k.lines.phis) k.lines.insts)) (behind_block v k) (TermAt (term_of s k.term) ∷ []) (behind_block v k) ls.1 refl))
            more.1,
      )
