-- Lines that are written one after the other.
use Rattle.std.proofs.Common.{◌≡◌, ◌∙◌, ℕ, ◌+◌, ◌<◌, ◌≤◌, List, [], ◌∷◌, ◌++◌, length, take, refl, ap, sym, subst, arith, length-append}
use Rattle.std.specs.Prelude.{Option, None, Some, Result, Ok, Err}
use Rattle.std.specs.Option.{option_map}
use Rattle.std.proofs.lemmas.Grind.{flat_map-append}
use Rattle.std.proofs.lemmas.List.{take-append-le}
use Rattle.std.proofs.Math.Seq.{take-append-add, take-append_seam}
use Rattle.ir_values.specs.Counts.{Rose}
use Rattle.qir_ports.specs.Known.{Takes}
use Rattle.output_lines.specs.declared.line.ShotStop.{ShotStop}
use Rattle.output_lines.specs.declared.line.ShotStop.TheVariants as stop
use Rattle.output_lines.specs.Writing.{text_of, Writes, WritesPart, WritesFirst}

-- nothing more
append-none : {A : Type 0} (xs : List A) → xs ++ [] ≡ xs
append-none [] = refl
append-none (x ∷ xs) = ap (λ ys. x ∷ ys) (append-none xs)

append-append : {A : Type 0} (xs ys zs : List A) → (xs ++ ys) ++ zs ≡ xs ++ (ys ++ zs)
append-append [] ys zs = refl
append-append (x ∷ xs) ys zs = ap (λ l. x ∷ l) (append-append xs ys zs)

text-append : (xs ys : List (List ℕ)) → text_of (xs ++ ys) ≡ text_of xs ++ text_of ys
text-append xs ys = flat_map-append (λ line. line) xs ys

pub rose-more : (f g h : ℕ) → f ≤ g → Rose g h → Rose f h
rose-more f g h le rose = omega arith

takes-none : (before : Option (List ℕ)) → Takes before [] before
takes-none None = refl
takes-none (Some all) = ap Some (sym (append-none all))

pub takes-more : (before between now : Option (List ℕ)) (xs ys : List ℕ) → Takes before xs between → Takes between ys now → Takes before (xs ++ ys) now
takes-more None between now xs ys h k = k ∙ ap (option_map (λ all. all ++ ys)) h
takes-more (Some all) between now xs ys h k = k ∙ ap (option_map (λ all. all ++ ys)) h ∙ ap Some (append-append all xs ys)

part-stays : (text more : List ℕ) (before now : Option (List ℕ)) → WritesPart text before now → WritesPart (text ++ more) before now
part-stays text more before now p =
    let few : p.count ≤ length text = let h = p.not_all in omega arith in
    record {
      count = p.count;
      not_all = let h = p.not_all in let l = length-append text more in omega arith;
      written = subst (λ part. Takes before part now) (sym (take-append-le p.count text more few)) p.written;
    }

part-follows : (xs ys : List ℕ) (before between now : Option (List ℕ)) → Takes before xs between → WritesPart ys between now → WritesPart (xs ++ ys) before now
part-follows xs ys before between now h p = record {
  count = length xs + p.count;
  not_all = let h = p.not_all in let l = length-append xs ys in omega arith;
  written = subst (λ part. Takes before part now) (sym (take-append-add xs ys p.count)) (takes-more before between now xs (take p.count ys) h p.written);
}

first-stays : (lines more : List (List ℕ)) (before now : Option (List ℕ)) → WritesFirst lines before now → WritesFirst (lines ++ more) before now
first-stays lines more before now p = record {
  count = p.count;
  within = let h = p.within in let l = length-append lines more in omega arith;
  written = subst (λ part. Takes before (text_of part) now) (sym (take-append-le p.count lines more p.within)) p.written;
}

first-follows : (xs ys : List (List ℕ)) (before between now : Option (List ℕ)) → Takes before (text_of xs) between → WritesFirst ys between now → WritesFirst (xs ++ ys) before now
first-follows xs ys before between now h p = record {
  count = length xs + p.count;
  within = let h = p.within in let l = length-append xs ys in omega arith;
  written =
      subst (λ part. Takes before (text_of part) now) (sym (take-append-add xs ys p.count))
      (subst (λ text. Takes before text now) (sym (text-append xs (take p.count ys)))
      (takes-more before between now (text_of xs) (text_of (take p.count ys)) h p.written));
}

-- an error is the same where more lines were to follow
pub writes-stays : (lines more : List (List ℕ)) (before now : Option (List ℕ)) (f g : ℕ) (e : ShotStop) → Writes {A = Unit {0}} lines before now f g (Err e) → Writes {A = Unit {0}} (lines ++ more) before now f g (Err e)
writes-stays lines more before now f g stop.Write w =
    (subst (λ text. WritesPart text before now) (sym (text-append lines more)) (part-stays (text_of lines) (text_of more) before now w.0), w.1)
writes-stays lines more before now f g stop.Memory w = first-stays lines more before now w

module _ {A : Type 0} where
  -- more lines follow
  pub writes-follow : (xs ys : List (List ℕ)) (before between now : Option (List ℕ)) (f g h : ℕ) (r : Result A ShotStop) → Takes before (text_of xs) between → f ≤ g → Writes ys between now g h r → Writes (xs ++ ys) before now f h r
  writes-follow xs ys before between now f g h (Ok done) t le w =
      subst (λ text. Takes before text now) (sym (text-append xs ys)) (takes-more before between now (text_of xs) (text_of ys) t w)
  writes-follow xs ys before between now f g h (Err stop.Write) t le w =
      (subst (λ text. WritesPart text before now) (sym (text-append xs ys)) (part-follows (text_of xs) (text_of ys) before between now t w.0), rose-more f g h le w.1)
  writes-follow xs ys before between now f g h (Err stop.Memory) t le w = first-follows xs ys before between now t w

-- the first of the lines were written, and the rest is to come
pub record Along (lines rest : List (List ℕ)) (before now : Option (List ℕ)) (f g : ℕ) : Type 0 where
  pub done : List (List ℕ)
  pub whole : lines ≡ done ++ rest
  pub written : Takes before (text_of done) now
  pub later : f ≤ g

pub along-start : (lines : List (List ℕ)) (before : Option (List ℕ)) (f : ℕ) → Along lines lines before before f f
along-start lines before f = record { done = []; whole = refl; written = takes-none before; later = omega arith }

pub along-step : (lines : List (List ℕ)) (line : List ℕ) (rest : List (List ℕ)) (before between now : Option (List ℕ)) (f g h : ℕ) → Along lines (line ∷ rest) before between f g → Takes between (text_of (line ∷ [])) now → g ≤ h → Along lines rest before now f h
along-step lines line rest before between now f g h a t le = record {
  done = a.done ++ line ∷ [];
  whole = a.whole ∙ sym (append-append a.done (line ∷ []) rest);
  written =
      subst (λ text. Takes before text now) (sym (text-append a.done (line ∷ []))) (takes-more before between now (text_of a.done) (text_of (line ∷ [])) a.written t);
  later = let l = a.later in omega arith;
}

pub along-memory : (lines rest : List (List ℕ)) (before now : Option (List ℕ)) (f g h : ℕ) → Along lines rest before now f g → Writes {A = Unit {0}} lines before now f h (Err stop.Memory)
along-memory lines rest before now f g h a = record {
  count = length a.done;
  within = subst (λ l. length a.done ≤ length l) (sym a.whole) (let l = length-append a.done rest in omega arith);
  written =
      subst (λ l. Takes before (text_of l) now) (sym (take-append_seam a.done rest) ∙ ap (take (length a.done)) (sym a.whole)) a.written;
}

pub along-fails : (lines : List (List ℕ)) (line : List ℕ) (rest : List (List ℕ)) (before between now : Option (List ℕ)) (f g h : ℕ) (e : ShotStop) → Along lines (line ∷ rest) before between f g → Writes {A = Unit {0}} (line ∷ []) between now g h (Err e) → Writes {A = Unit {0}} lines before now f h (Err e)
along-fails lines line rest before between now f g h e a w =
    subst (λ l. Writes {A = Unit {0}} l before now f h (Err e)) (sym a.whole)
    (writes-follow {A = Unit {0}} a.done (line ∷ rest) before between now f g h (Err e) a.written a.later (writes-stays (line ∷ []) rest between now g h e w))

pub along-end : (lines : List (List ℕ)) (before now : Option (List ℕ)) (f g : ℕ) → Along lines [] before now f g → Takes before (text_of lines) now
along-end lines before now f g a = subst (λ l. Takes before (text_of l) now) (sym (a.whole ∙ append-none a.done)) a.written

-- one line
pub writes-line : (line : List ℕ) (before now : Option (List ℕ)) → Takes before line now → Takes before (text_of (line ∷ [])) now
writes-line line before now t = subst (λ text. Takes before text now) (sym (append-none line)) t

pub part-of-line : (line : List ℕ) (before now : Option (List ℕ)) (count : ℕ) → count < length line → Takes before (take count line) now → WritesPart (text_of (line ∷ [])) before now
part-of-line line before now count few t =
    subst (λ text. WritesPart text before now) (sym (append-none line)) (record { count = count; not_all = few; written = t })

-- two lines, the first of which was written
pub two-lines : (x y : List ℕ) (before between now : Option (List ℕ)) → Takes before x between → Takes between y now → Takes before (text_of (x ∷ y ∷ [])) now
two-lines x y before between now t u = subst (λ z. Takes before (x ++ z) now) (sym (append-none y)) (takes-more before between now x y t u)

pub part-of-first : (x y : List ℕ) (before now : Option (List ℕ)) (n : ℕ) → n < length x → Takes before (take n x) now → Takes before (take n (text_of (x ∷ y ∷ []))) now
part-of-first x y before now n few t = subst (λ z. Takes before z now) (sym (take-append-le n x (y ++ []) (omega arith))) t

pub part-of-second : (x y : List ℕ) (before between now : Option (List ℕ)) (n : ℕ) → Takes before x between → Takes between (take n y) now → Takes before (take (length x + n) (text_of (x ∷ y ∷ []))) now
part-of-second x y before between now n t u =
    subst (λ z. Takes before (take (length x + n) (x ++ z)) now) (sym (append-none y))
    (subst (λ z. Takes before z now) (sym (take-append-add x y n)) (takes-more before between now x (take n y) t u))

-- the lines of a list and more
pub writes-list : (lines : List (List ℕ)) (before now : Option (List ℕ)) → Takes before (text_of lines) now → Takes before (text_of (lines ++ [])) now
writes-list lines before now t = subst (λ l. Takes before (text_of l) now) (sym (append-none lines)) t
