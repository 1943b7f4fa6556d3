-- The lines of shots that do the same.
use Rattle.std.proofs.Common.{◌≡◌, ◌∙◌, ℕ, ◌+◌, ◌*◌, Bool, not, ◌&&◌, List, [], ◌∷◌, ◌++◌, map, refl, sym, ap, codes}
use Rattle.std.specs.List.{flat_map}
use Rattle.std.proofs.lemmas.List.Elements.{filter-append}
use Rattle.backend_api.specs.Naming.{Naming}
use Rattle.equal_shots.specs.Shots.{DoesSame, EqualShots}
use Rattle.ir_module.specs.declared.tree.Attr.{Attr}
use Rattle.ir_module.specs.declared.tree.Constant.{Constant}
use Rattle.ir_module.specs.declared.tree.Function.{Function}
use Rattle.ir_module.specs.declared.tree.Module.{Module}
use Rattle.output_lines.specs.declared.last.Last.{Last}
use Rattle.output_lines.specs.declared.last.Last.TheVariants as last
use Rattle.output_lines.specs.declared.last.Schema.{Schema}
use Rattle.output_lines.specs.RecordLines.{head_lines, last_lines, metadata_line, output_line}
use Rattle.output_records.specs.declared.record.Record.{Record}
use Rattle.run_commands.specs.Shots.{AreShots, all_returned, returned, run_lines, told_shot}
use Rattle.shots.specs.declared.backend.Backend.{Backend}
use Rattle.shots.specs.Shots.{Shot}
use Rattle.equal_lines.specs.Lines.{AreOver, EqualRuns, is_metadata, without_metadata}

abbrev stays : List ℕ → Bool
stays line = not (is_metadata line)

-- ---- which lines of a shot stay

no-attributes : (attrs : List Attr) → without_metadata (map metadata_line attrs) ≡ []
no-attributes [] = refl
no-attributes (a ∷ attrs) = no-attributes attrs

all-records : (schema : Schema) (constants : List Constant) (rs : List Record) → without_metadata (map (output_line schema constants) rs) ≡ map (output_line schema constants) rs
all-records schema constants [] = refl
all-records schema constants (r ∷ rs) = ap (λ l. output_line schema constants r ∷ l) (all-records schema constants rs)

the-last : (l : Last) → without_metadata (last_lines l) ≡ last_lines l
the-last (last.Code code) = refl
the-last (last.Stop name) = refl

abbrev start_line : List ℕ
start_line = codes "START\n"

-- the lines of a shot without those of attributes
abbrev plain_lines : Schema → List Constant → List Record → Last → List (List ℕ)
plain_lines schema constants rs l = start_line ∷ (map (output_line schema constants) rs ++ last_lines l)

plain-shot : (schema : Schema) (m : Module) (f : Function) (s : Shot) → without_metadata (told_shot schema m f s) ≡ plain_lines schema m.globals s.records s.last
plain-shot schema m f s =
    let records = map (output_line schema m.globals) s.records in
    let attrs = map metadata_line f.attrs in
    ap (λ l. start_line ∷ l)
    (filter-append stays attrs (records ++ last_lines s.last) ∙ ap (λ l. l ++ without_metadata (records ++ last_lines s.last)) (no-attributes f.attrs) ∙ filter-append stays records (last_lines s.last)
    ∙ (λ i. all-records schema m.globals s.records i ++ the-last s.last i))

module _ (m l : Module) (N : Naming) (W : ℕ) (equal : EqualShots m l N W) (globals : l.globals ≡ m.globals) where
  same-lines : (schema : Schema) (f g : Function) (x y : Shot) → DoesSame N x y → without_metadata (told_shot schema m f x) ≡ without_metadata (told_shot schema l g y)
  same-lines schema f g x y d =
      plain-shot schema m f x ∙ (λ i. plain_lines schema (sym globals i) (sym d.records i) (sym d.last i)) ∙ sym (plain-shot schema l g y)

  -- the lines of several shots
  all-lines : (schema : Schema) (f g : Function) (bs : List Backend) (n k : ℕ) (xs ys : List Shot) → AreShots bs m n xs → AreShots bs l k ys → AreOver xs → AreOver ys
      → without_metadata (flat_map (told_shot schema m f) xs) ≡ without_metadata (flat_map (told_shot schema l g) ys)
  all-lines schema f g [] n k [] [] p q o u = refl
  all-lines schema f g [] n k [] (y ∷ ys) p q o u = absurd q
  all-lines schema f g [] n k (x ∷ xs) ys p q o u = absurd p
  all-lines schema f g (b ∷ bs) n k [] ys p q o u = absurd p
  all-lines schema f g (b ∷ bs) n k (x ∷ xs) [] p q o u = absurd q
  all-lines schema f g (b ∷ bs) n k (x ∷ xs) (y ∷ ys) p q o u =
      let one = same-lines schema f g x y (equal.equal b n k x y p.0 q.0 o.0 u.0) in
      let more = all-lines schema f g bs n k xs ys p.1 q.1 o.1 u.1 in
      filter-append stays (told_shot schema m f x) (flat_map (told_shot schema m f) xs) ∙ (λ i. one i ++ more i) ∙ sym (filter-append stays (told_shot schema l g y) (flat_map (told_shot schema l g) ys))

  all-return : (bs : List Backend) (n k : ℕ) (xs ys : List Shot) → AreShots bs m n xs → AreShots bs l k ys → AreOver xs → AreOver ys → all_returned xs ≡ all_returned ys
  all-return [] n k [] [] p q o u = refl
  all-return [] n k [] (y ∷ ys) p q o u = absurd q
  all-return [] n k (x ∷ xs) ys p q o u = absurd p
  all-return (b ∷ bs) n k [] ys p q o u = absurd p
  all-return (b ∷ bs) n k (x ∷ xs) [] p q o u = absurd q
  all-return (b ∷ bs) n k (x ∷ xs) (y ∷ ys) p q o u =
      let one = (equal.equal b n k x y p.0 q.0 o.0 u.0).last in
      let more = all-return bs n k xs ys p.1 q.1 o.1 u.1 in
      λ i. returned (sym one i) && more i

  over-forth : (bs : List Backend) (n : ℕ) (xs ys : List Shot) → AreShots bs m n xs → AreShots bs l (4 * n + 16) ys → AreOver xs → AreOver ys
  over-forth [] n xs [] p q o = tt
  over-forth [] n xs (y ∷ ys) p q o = absurd q
  over-forth (b ∷ bs) n [] ys p q o = absurd p
  over-forth (b ∷ bs) n (x ∷ xs) [] p q o = tt
  over-forth (b ∷ bs) n (x ∷ xs) (y ∷ ys) p q o = (λ cut. o.0 (equal.cut_back b n x y q.0 p.0 cut), over-forth bs n xs ys p.1 q.1 o.1)

  over-back : (bs : List Backend) (n : ℕ) (xs ys : List Shot) → AreShots bs m ((n + 1) * W) xs → AreShots bs l n ys → AreOver ys → AreOver xs
  over-back [] n [] ys p q o = tt
  over-back [] n (x ∷ xs) ys p q o = absurd p
  over-back (b ∷ bs) n xs [] p q o = absurd q
  over-back (b ∷ bs) n [] (y ∷ ys) p q o = tt
  over-back (b ∷ bs) n (x ∷ xs) (y ∷ ys) p q o = (λ cut. o.0 (equal.cut_forth b n x y p.0 q.0 cut), over-back bs n xs ys p.1 q.1 o.1)

  -- the lines before all shots are the same, and stay
  whole : (schema : Schema) (f g : Function) (xs ys : List Shot) → without_metadata (flat_map (told_shot schema m f) xs) ≡ without_metadata (flat_map (told_shot schema l g) ys)
      → without_metadata (run_lines schema m f xs) ≡ without_metadata (run_lines schema l g ys)
  whole schema f g xs ys e =
      filter-append stays (head_lines schema) (flat_map (told_shot schema m f) xs) ∙ ap (λ l. without_metadata (head_lines schema) ++ l) e ∙ sym (filter-append stays (head_lines schema) (flat_map (told_shot schema l g) ys))

  pub equal-runs : EqualRuns m l W
  equal-runs = record {
    equal = λ schema bs n k text text' all all' x y o u. (
      whole schema x.entry.function y.entry.function x.shots y.shots (all-lines schema x.entry.function y.entry.function bs n k x.shots y.shots x.are y.are o u),
      x.all_is ∙ all-return bs n k x.shots y.shots x.are y.are o u ∙ sym y.all_is,
    );
    forth = λ schema bs n text text' all all' x y o. over-forth bs n x.shots y.shots x.are y.are o;
    back = λ schema bs n text text' all all' x y o. over-back bs n x.shots y.shots x.are y.are o;
  }
