-- A text of well-spaced parts has exactly their tokens.
use Rattle.std.proofs.Common.{◌≡◌, ℕ, ◌+◌, Bool, true, false, List, [], ◌∷◌, ◌++◌, length, Ok, refl, sym, subst, append_assoc, append-nil, arith, inl, inr}
use Rattle.std.specs.Prelude.{not, ◌&&◌, ◌||◌, ◌==◌}
use Rattle.std.specs.List.{list_all}
use Rattle.std.proofs.lemmas.Bool.{and_parts, and_from, or_left, not-true}
use Rattle.std.proofs.lemmas.Bool.Decides.{nat_tests}
use Rattle.std.proofs.lemmas.List.{length-append}
use Rattle.ir_values.specs.Double.{begins, is_nil}
use Rattle.ir_text.specs.code.Scan.{shape}
use Rattle.ir_text.specs.Tokens.{is_blank, is_gap, is_comment, Heads, TokensFrom, Tokens}
use Rattle.ir_text.specs.declared.tok.Tok.{Tok}
use Rattle.ir_text.proofs.Heads.{ShapeIs, shape_is, same_cut, not_nil}
use Rattle.ir_parts.specs.Parts.{Part, gap, token, text_of, spans_from, spans_of}
use Rattle.ir_parts.specs.Spaced.{joins, is_open_ended, is_written, spaced}
use Rattle.ir_parts.proofs.Stops.{written_stops, written_form}

-- Spaces are gaps.

blank_step : (c : ℕ) (x : Bool) → is_blank c ≡ true → (y : Bool) → ((is_blank c && x) || y) ≡ (x || y)
blank_step c x e y = rw e refl

pub blanks_gap : (s : List ℕ) → list_all is_blank s ≡ true → is_gap s ≡ true
blanks_gap [] h = refl
blanks_gap (c ∷ cs) h =
    let p = and_parts (is_blank c) (list_all is_blank cs) h in
    or_left (is_blank c && is_gap cs) ((c == 59) && is_comment cs) (and_from (is_blank c) (is_gap cs) p.0 (blanks_gap cs p.1))

all_append : (p : ℕ → Bool) (s t : List ℕ) → list_all p s ≡ true → list_all p t ≡ true → list_all p (s ++ t) ≡ true
all_append p [] t h k = k
all_append p (c ∷ cs) t h k =
    let w = and_parts (p c) (list_all p cs) h in
    and_from (p c) (list_all p (cs ++ t)) w.0 (all_append p cs t w.1 k)

-- The first byte of parts that may stand behind an open end is none that goes on with it.

blank_no_join : (c : ℕ) → is_blank c ≡ true → joins c ≡ false
blank_no_join c h = grind (arith, nat_tests)

begins_blank : (s : List ℕ) (more : List ℕ) → list_all is_blank s ≡ true → (is_nil s ≡ true → begins joins more ≡ false) → begins joins (s ++ more) ≡ false
begins_blank [] more h k = k refl
begins_blank (c ∷ cs) more h k = blank_no_join c (and_parts (is_blank c) (list_all is_blank cs) h).0

begins_spelled : (kind : Tok) (s more : List ℕ) → is_written kind s ≡ true → begins joins s ≡ false → begins joins (s ++ more) ≡ false
begins_spelled kind [] more h k = absurd (not_nil kind [] [] (written_form kind [] h).0 refl)
begins_spelled kind (c ∷ cs) more h k = k

pub clear : (ps : List Part) → spaced true ps ≡ true → begins joins (text_of ps) ≡ false
clear [] h = refl
clear (gap s ∷ ps) h =
    let p = and_parts (list_all is_blank s) (spaced (is_nil s) ps) h in
    begins_blank s (text_of ps) p.0 (λ e. clear ps (subst (λ b. spaced b ps ≡ true) e p.1))
clear (token kind s ∷ ps) h =
    let p = and_parts (not (begins joins s) && is_written kind s) (spaced (is_open_ended kind) ps) h in
    let q = and_parts (not (begins joins s)) (is_written kind s) p.0 in
    begins_spelled kind s (text_of ps) q.1 (not-true (begins joins s) q.0)

-- The token at the front of what is written.

heads_of : (kind : Tok) (c : ℕ) (cs more : List ℕ) → ShapeIs (c ∷ (cs ++ more)) (shape (c ∷ (cs ++ more))) → shape (c ∷ (cs ++ more)) ≡ Ok (kind, more) → Heads (c ∷ (cs ++ more)) kind (c ∷ cs) more
heads_of kind c cs more w e =
    let v = subst (ShapeIs (c ∷ (cs ++ more))) e w in
    let cut = same_cut (c ∷ cs) v.0 more more v.1.split refl in
    subst (λ x. Heads (c ∷ (cs ++ more)) kind x more) (sym cut.0) v.1

pub heads : (kind : Tok) (s more : List ℕ) → is_written kind s ≡ true → (is_open_ended kind ≡ true → begins joins more ≡ false) → Heads (s ++ more) kind s more
heads kind [] more h k = absurd (not_nil kind [] [] (written_form kind [] h).0 refl)
heads kind (c ∷ cs) more h k = heads_of kind c cs more (shape_is c (cs ++ more)) (written_stops kind (c ∷ cs) more h k)

open_clear : (kind : Tok) (ps : List Part) → spaced (is_open_ended kind) ps ≡ true → is_open_ended kind ≡ true → begins joins (text_of ps) ≡ false
open_clear kind ps h e = clear ps (subst (λ b. spaced b ps ≡ true) e h)

-- The tokens, from a place on, before which blanks stand.

more_gap : (at : ℕ) (g s : List ℕ) → at + length (g ++ s) ≡ at + length g + length s
more_gap at g s = omega (arith, length-append g s)

pub tokens_hold : (ps : List Part) (joined : Bool) (at : ℕ) (g : List ℕ) → list_all is_blank g ≡ true → spaced joined ps ≡ true → TokensFrom at (g ++ text_of ps) (spans_from (at + length g) ps)
tokens_hold [] joined at g b h =
    let same : g ++ [] ≡ g = append-nil g in
    inl (
      record {
        between = blanks_gap ((g ++ []) ++ 10 ∷ []) (rw same (all_append is_blank g (10 ∷ []) b refl));
        kind = refl;
        place = rw same refl;
      },
      refl,
    )
tokens_hold (gap s ∷ ps) joined at g b h =
    let p = and_parts (list_all is_blank s) _ h in
    let ih = tokens_hold ps _ at (g ++ s) (all_append is_blank g s b p.0) p.1 in
    let step = subst (λ n. TokensFrom at ((g ++ s) ++ text_of ps) (spans_from n ps)) (more_gap at g s) ih in
    subst (λ x. TokensFrom at x (spans_from (at + length g + length s) ps)) (append_assoc g s (text_of ps)) step
tokens_hold (token kind s ∷ ps) joined at g b h =
    let p = and_parts (not (joined && begins joins s) && is_written kind s) (spaced (is_open_ended kind) ps) h in
    let q = and_parts (not (joined && begins joins s)) (is_written kind s) p.0 in
    let f = written_form kind s q.1 in
    let ih = tokens_hold ps (is_open_ended kind) (at + length g + length s) [] refl p.1 in
    let none : at + length g + length s + 0 ≡ at + length g + length s = omega arith in
    inr (
      g,
      s,
      text_of ps,
      record {
        split = refl;
        between = blanks_gap g b;
        heads = heads kind s (text_of ps) q.1 (open_clear kind ps p.1);
        faultless = f.1;
        place = refl;
      },
      subst (λ n. TokensFrom (at + length g + length s) (text_of ps) (spans_from n ps)) none ih,
    )

pub all_tokens : (ps : List Part) → spaced false ps ≡ true → Tokens (text_of ps) (spans_of ps)
all_tokens ps h = tokens_hold ps false 0 [] refl h
