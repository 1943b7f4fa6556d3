-- Parameters of parts have the widths of Dynamic names; without integer computations each is one bit.
use Rattle.std.proofs.Common.{◌≡◌, ℕ, suc, Bool, true, false, Option, None, Some, List, [], ◌∷◌, ◌++◌, map, slice_get, refl, sym, ap, ◌∙◌}
use Rattle.std.proofs.lemmas.Bool.{and_from, and_parts}
use Rattle.std.proofs.lemmas.List.Folds.{list_all-map}
use Rattle.std.specs.List.{list_all}
use Rattle.std.specs.Prelude.{◌&&◌, ◌||◌}
use Rattle.ir_module.specs.declared.tree.Function.{Function}
use Rattle.ir_module.specs.declared.tree.Module.{Module}
use Rattle.ir_values.specs.declared.ids.LocalId.{LocalId}
use Rattle.ir_values.specs.declared.int.Width.{Width}
use Rattle.ir_values.specs.declared.int.Width.TheVariants.{W1}
use Rattle.ir_values.specs.declared.ty.Ty.{Ty}
use Rattle.ir_values.specs.declared.ty.Ty.TheVariants as ty
use Rattle.ir_values.specs.declared.value.Value.{Value}
use Rattle.ir_values.specs.Values.{is_bit, is_bitwise}
use Rattle.kept_items.specs.declared.item.Item.{Item}
use Rattle.kept_items.specs.declared.item.Item.TheVariants as item
use Rattle.kept_items.specs.declared.target.Target.{Target}
use Rattle.kept_items.specs.declared.val.Dyn.{Dyn}
use Rattle.kept_items.specs.Targets.{has_ints}
use Rattle.residue.specs.declared.parts.Line.{Line}
use Rattle.residue.specs.declared.parts.Part.{Part}
use Rattle.residue.specs.declared.parts.Tail.{Tail}
use Rattle.static_steps.specs.declared.config.Config.{Config}
use Rattle.static_steps.specs.declared.config.Frame.{Frame}
use Rattle.static_steps.specs.Configurations.{Bounds}
use Rattle.static_steps.specs.Values.{Names}
use Rattle.fused_parts.specs.declared.numbers.Numbers.{Numbers}
use Rattle.fused_parts.specs.Nodes.{Node, frame_widths, frames_widths, name_widths, one_width, width_of, widths_of}
use Rattle.fused_parts.specs.Nodes as nodes
use Rattle.fused_parts.specs.Parts.{Rest, joined, lines_of, next_numbers, no_numbers, parts_of, rest_from, shared_part, tail_of, whole, with_widths}
use Rattle.path_search.proofs.Lists.{map_push}
use Rattle.valid_steps.specs.Items.{IsItem, IsSomeItem, gives_some}
use Rattle.valid_steps.specs.Types.{Fill, dynamic_types, type_if_dynamic, type_in, types_of_frames, types_of_names}
use Rattle.valid_lines.proofs.Items.{or-true, true-or}
use Rattle.valid_lines.proofs.Parts.{both-pass}
use Rattle.valid_residue.proofs.Lists.{one-passes}

-- ---- a test of widths that the Dynamic names of all configurations pass is passed by all parameters

module _ (test : Width → Bool) where
  widths-pass : (ds : List Dyn) (ws : List Width) → list_all test ws ≡ true → list_all (λ (x : Dyn × Width). test x.1) (with_widths ds ws) ≡ true
  widths-pass [] ws h = refl
  widths-pass (d ∷ ds) [] h = refl
  widths-pass (d ∷ ds) (w ∷ ws) h =
      let p = and_parts (test w) (list_all test ws) h in and_from (test w) (list_all (λ (x : Dyn × Width). test x.1) (with_widths ds ws)) p.0 (widths-pass ds ws p.1)

  abbrev ParamsPass : List Part → Type 0
  ParamsPass ps = list_all (λ (p : Part). list_all (λ (x : Dyn × Width). test x.1) p.params) ps ≡ true

  joined-params : (b : Bool) (ls : List Line) (t : Tail) (params : List (Dyn × Width)) (r : Rest) → list_all (λ (x : Dyn × Width). test x.1) params ≡ true → ParamsPass r.parts → ParamsPass (joined b ls t params r).parts
  joined-params true ls t params r h k = k
  joined-params false ls t params r h k = and_from (list_all (λ (x : Dyn × Width). test x.1) params) (list_all (λ (p : Part). list_all (λ (x : Dyn × Width). test x.1) p.params) r.parts) h k

  module _ (m : Module) (nodes : List Node) (part_of : ℕ → ℕ) (shared : Option ℕ) where
    rest-params : (xs : List Node) (bs : List Bool) (n : Numbers) → ((i : ℕ) (x : Node) → slice_get xs i ≡ Some x → list_all test (widths_of m x.node) ≡ true)
        → ParamsPass (rest_from m nodes part_of shared xs bs n).parts
    rest-params [] bs n h = refl
    rest-params (x ∷ []) bs n h = refl
    rest-params (x ∷ y ∷ xs) [] n h = refl
    rest-params (x ∷ y ∷ xs) (b ∷ bs) n h =
        let k : Numbers = next_numbers x b y n in
        joined-params b (lines_of nodes x n) (tail_of part_of shared x n) (with_widths k.mine (widths_of m y.node)) (rest_from m nodes part_of shared (y ∷ xs) bs k)
        (widths-pass k.mine (widths_of m y.node) (h 1 y refl)) (rest-params (y ∷ xs) bs k (λ i z e. h (suc i) z e))

    shared-params : (o : Option ℕ) → ParamsPass (shared_part o)
    shared-params None = refl
    shared-params (Some n) = refl

    pub params-pass : (bs : List Bool) → ((i : ℕ) (x : Node) → slice_get nodes i ≡ Some x → list_all test (widths_of m x.node) ≡ true) → ParamsPass (parts_of m part_of shared nodes bs)
    params-pass bs h =
        both-pass (λ (p : Part). list_all (λ (x : Dyn × Width). test x.1) p.params) (whole (rest_from m nodes part_of shared nodes bs no_numbers)) (shared_part shared) (rest-params nodes bs no_numbers h) (shared-params shared)

-- ---- the widths of Dynamic names are those of their types

same-type-in : (f : Option Function) (x : LocalId) → nodes.type_in f x ≡ type_in f x
same-type-in None x = refl
same-type-in (Some f) x = refl

one-widths : (f : Option Function) (x : LocalId) (o : Option Value) → one_width f x o ≡ map width_of (type_if_dynamic (type_in f x) o)
one-widths f x None = ap (λ u. width_of u ∷ []) (same-type-in f x)
one-widths f x (Some v) = refl

names-widths : (f : Option Function) (ns : Names (Option Value)) → name_widths f ns ≡ map width_of (types_of_names f ns)
names-widths f [] = refl
names-widths f (e ∷ ns) =
    ap (λ l. l ++ name_widths f ns) (one-widths f e.0 e.1)
    ∙ ap (λ l. map width_of (type_if_dynamic (type_in f e.0) e.1) ++ l) (names-widths f ns)
    ∙ sym (map_push width_of (type_if_dynamic (type_in f e.0) e.1) (types_of_names f ns))

frames-widths : (m : Module) (fs : List Frame) → frames_widths m fs ≡ map width_of (types_of_frames m fs)
frames-widths m [] = refl
frames-widths m (f ∷ fs) =
    ap (λ l. l ++ frame_widths m f) (frames-widths m fs)
    ∙ ap (λ l. map width_of (types_of_frames m fs) ++ l) (names-widths (slice_get m.funcs f.at.func.0) f.names)
    ∙ sym (map_push width_of (types_of_frames m fs) (types_of_names (slice_get m.funcs f.at.func.0) f.names))

widths-are : (m : Module) (g : Config) → widths_of m g ≡ map width_of (dynamic_types m g)
widths-are m g =
    ap (λ l. l ++ frame_widths m g.top) (frames-widths m g.below)
    ∙ ap (λ l. map width_of (types_of_frames m g.below) ++ l) (names-widths (slice_get m.funcs g.top.at.func.0) g.top.names)
    ∙ sym (map_push width_of (types_of_frames m g.below) (types_of_names (slice_get m.funcs g.top.at.func.0) g.top.names))

-- ---- without integer computations they are one bit

fill-passes : (test : Option Ty → Bool) (ts : List (Option Ty)) (ds : List Dyn) (us : List (Option Ty)) → Fill ts ds us → list_all test ts ≡ true → list_all test us ≡ true
fill-passes test ts [] [] h k = refl
fill-passes test ts [] (u ∷ us) h k = absurd h
fill-passes test ts (d ∷ ds) [] h k = absurd h
fill-passes test ts (d ∷ ds) (u ∷ us) h k = and_from (test u) (list_all test us) (one-passes test ts d.0 u k h.0) (fill-passes test ts ds us h.1 k)

module _ (m : Module) (t : Target) where
  abbrev narrow : Width → Bool
  narrow w = has_ints t || is_bit w

  abbrev narrow_type : Option Ty → Bool
  narrow_type u = narrow (width_of u)

  -- the types of the Dynamic names of a configuration
  abbrev pub AreNarrow : Config → Type 0
  AreNarrow g = list_all narrow_type (dynamic_types m g) ≡ true

  first-of : (a b c : Bool) → (a || (b && c)) ≡ true → (a || b) ≡ true
  first-of true b c e = refl
  first-of false true c e = refl
  first-of false false c e = cc

  one : (u : Option Ty) → narrow_type u ≡ true → list_all narrow_type (u ∷ []) ≡ true
  one u e = and_from (narrow_type u) true e refl

  gives-narrow : (b : Bounds) (ts : List (Option Ty)) (held : List ℕ) (i : Item) → IsItem m t b ts held i → list_all narrow_type (gives_some (Some i)) ≡ true
  gives-narrow b ts held (item.Binary r o flags w x y) h = one (Some (ty.Int w)) (first-of (has_ints t) (is_bit w) (is_bitwise o) h.3)
  gives-narrow b ts held (item.Icmp r o w x y) h = one (Some (ty.Int W1)) (true-or (has_ints t) true refl)
  gives-narrow b ts held (item.Convert r o w x to) h = one (Some (ty.Int to)) (or-true (has_ints t) (is_bit to) h.2)
  gives-narrow b ts held (item.Select r w c x y) h = one (Some (ty.Int w)) h.2
  gives-narrow b ts held (item.Read r v) h = one (Some (ty.Int W1)) (true-or (has_ints t) true refl)
  gives-narrow b ts held (item.Equal r v u) h = one (Some (ty.Int W1)) (true-or (has_ints t) true refl)
  gives-narrow b ts held (item.Operation name args) h = refl
  gives-narrow b ts held (item.Output c args) h = refl

  some-narrow : (b : Bounds) (ts : List (Option Ty)) (held : List ℕ) (o : Option Item) → IsSomeItem m t b ts held o → list_all narrow_type (gives_some o) ≡ true
  some-narrow b ts held None h = refl
  some-narrow b ts held (Some i) h = gives-narrow b ts held i h

  -- what a move brings is narrow, where what was there is
  pub move-narrow : (b : Bounds) (held : List ℕ) (g to : Config) (o : Option Item) (args : List Dyn) → AreNarrow g → IsSomeItem m t b (dynamic_types m g) held o
      → Fill (dynamic_types m g ++ gives_some o) args (dynamic_types m to) → AreNarrow to
  move-narrow b held g to o args h i fill =
      fill-passes narrow_type (dynamic_types m g ++ gives_some o) args (dynamic_types m to) fill (both-pass narrow_type (dynamic_types m g) (gives_some o) h (some-narrow b (dynamic_types m g) held o i))

  pub widths-narrow : (g : Config) → AreNarrow g → list_all narrow (widths_of m g) ≡ true
  widths-narrow g h = ap (list_all narrow) (widths-are m g) ∙ list_all-map narrow width_of (dynamic_types m g) ∙ h
