-- The places of a text are those of the spots of its module.
use Rattle.std.proofs.Common.{◌≡◌, ℕ, zero, suc, ◌+◌, Option, None, Some, List, [], ◌∷◌, ◌++◌, map, length, refl, sym, ap, ◌∙◌, arith}
use Rattle.std.proofs.lemmas.List.{map-append, length-map, length-append}
use Rattle.std.specs.List.{filter_map}
use Rattle.ir_grammar.specs.declared.tree.BlockSyntax.{BlockSyntax}
use Rattle.ir_grammar.specs.declared.tree.FunctionSyntax.{FunctionSyntax}
use Rattle.ir_grammar.specs.declared.tree.ItemSyntax.{ItemSyntax}
use Rattle.ir_grammar.specs.declared.tree.ItemSyntax.TheVariants as syntax
use Rattle.ir_grammar.specs.declared.tree.LineSyntax.{LineSyntax}
use Rattle.ir_grammar.specs.declared.tree.PhiSyntax.{PhiSyntax}
use Rattle.ir_module.specs.declared.places.Place.{Place}
use Rattle.ir_module.specs.declared.places.Point.{Point}
use Rattle.ir_module.specs.declared.places.Spot.{Spot}
use Rattle.ir_module.specs.declared.places.Spot.TheVariants as spot
use Rattle.ir_module.specs.Spots.{points_from, blocks_spots, function_spots, functions_spots, spots}
use Rattle.ir_module.specs.Tree.{blocks_or_none}
use Rattle.ir_values.specs.declared.ids.FuncId.{FuncId}
use Rattle.ir_tokens.specs.declared.token.Token.{Token}
use Rattle.ir_names.specs.Blocks.{blocks_of, behind_block}
use Rattle.ir_names.specs.Functions.{body_of, inside, function_of, behind_params}
use Rattle.ir_names.specs.Instructions.{insts_of, phis_of, behind, behind_phis}
use Rattle.ir_names.specs.Items.{function_in}
use Rattle.ir_names.specs.Module.{told, module_of}
use Rattle.ir_names.specs.Places.{points, block_tokens, block_places, body_places, function_places, items_places, places_of, next_block, next_function, first_point, phi_token, line_token}
use Rattle.ir_names.specs.Sense.{Sense}

abbrev spots_in : List (Spot × Place) → List Spot
spots_in ps = map (λ p. p.0) ps

-- so many phis, and so many instructions
phis_many : (s : Sense) (v : ℕ) (ps : List PhiSyntax) → length (phis_of s v ps) ≡ length ps
phis_many s v [] = refl
phis_many s v (p ∷ ps) = ap suc (phis_many s (v + 1) ps)

insts_many : (s : Sense) (v : ℕ) (ls : List LineSyntax) → length (insts_of s v ls) ≡ length ls
insts_many s v [] = refl
insts_many s v (l ∷ ls) = ap suc (insts_many s (behind v l.result) ls)

tokens_many : (s : Sense) (v : ℕ) (k : BlockSyntax)
    → length (block_tokens k) ≡ suc (length (phis_of s v k.lines.phis) + length (insts_of s (behind_phis v k.lines.phis) k.lines.insts))
tokens_many s v k =
    let a = phis_many s v k.lines.phis in
    let b = insts_many s (behind_phis v k.lines.phis) k.lines.insts in
    let c : length (map phi_token k.lines.phis) ≡ length k.lines.phis = length-map k.lines.phis phi_token in
    let d : length (map line_token k.lines.insts) ≡ length k.lines.insts = length-map k.lines.insts line_token in
    let e = length-append (map phi_token k.lines.phis) (map line_token k.lines.insts ++ k.last ∷ []) in
    let f = length-append (map line_token k.lines.insts) (k.last ∷ []) in
    omega (arith, a, b, c, d, e, f)

points_spots : (text : List ℕ) (p : Point) (ts : List Token) → spots_in (points text p ts) ≡ points_from p.func.0 p.block.0 p.index (length ts)
points_spots text p [] = refl
points_spots text p (t ∷ ts) =
    let e : p.index + 1 ≡ suc p.index = omega arith in
    ap (λ (l : List Spot). spot.At p ∷ l) (points_spots text (record p { index = p.index + 1 }) ts ∙ ap (λ (n : ℕ). points_from p.func.0 p.block.0 n (length ts)) e)

blocks_in_order : (text : List ℕ) (s : Sense) (u v : ℕ) (p : Point) (ks : List BlockSyntax) → p.index ≡ 0
    → spots_in (block_places text p ks) ≡ blocks_spots p.func.0 p.block.0 (blocks_of s u v ks)
blocks_in_order text s u v p [] z = refl
blocks_in_order text s u v p (k ∷ ks) z =
    let f = p.func.0 in let b = p.block.0 in
    let e : b + 1 ≡ suc b = omega arith in
    let one : spots_in (points text p (block_tokens k)) ≡ points_from f b 0 (suc (length (phis_of s v k.lines.phis) + length (insts_of s (behind_phis v k.lines.phis) k.lines.insts))) =
    (points_spots text p (block_tokens k) ∙ ap (λ (i : ℕ). points_from f b i (length (block_tokens k))) z) ∙ ap (points_from f b 0) (tokens_many s v k) in
    let more : spots_in (block_places text (next_block p) ks) ≡ blocks_spots f (suc b) (blocks_of s u (behind_block v k) ks) =
    blocks_in_order text s u (behind_block v k) (next_block p) ks z ∙ ap (λ (c : ℕ). blocks_spots f c (blocks_of s u (behind_block v k) ks)) e in
    map-append (λ (q : Spot × Place). q.0) (points text p (block_tokens k)) (block_places text (next_block p) ks)
    ∙ (ap (λ (l : List Spot). l ++ spots_in (block_places text (next_block p) ks)) one ∙ ap (λ (l : List Spot). points_from f b 0 (suc (length (phis_of s v k.lines.phis) + length (insts_of s (behind_phis v k.lines.phis) k.lines.insts))) ++ l) more)

body_in_order : (text : List ℕ) (s : Sense) (u v : ℕ) (f : FuncId) (ks : Option (List BlockSyntax)) → spots_in (body_places text f ks) ≡ blocks_spots f.0 0 (blocks_or_none (body_of s u v ks))
body_in_order text s u v f None = refl
body_in_order text s u v f (Some ks) = blocks_in_order text s u v (first_point f) ks refl

function_in_order : (text : List ℕ) (s : Sense) (f : FuncId) (g : FunctionSyntax) → spots_in (function_places text f g) ≡ function_spots f.0 (function_of s g)
function_in_order text s f g = ap (λ (l : List Spot). spot.Func f ∷ l) (body_in_order text (inside s g) (behind_params 0 g.params) (length g.params) f g.blocks)

items_in_order : (text : List ℕ) (s : Sense) (f : FuncId) (is : List ItemSyntax) → spots_in (items_places text f is) ≡ functions_spots f.0 (filter_map (function_in s) is)
items_in_order text s f [] = refl
items_in_order text s f (syntax.Function g ∷ is) =
    let e : f.0 + 1 ≡ suc f.0 = omega arith in
    let more : spots_in (items_places text (next_function f) is) ≡ functions_spots (suc f.0) (filter_map (function_in s) is) =
    items_in_order text s (next_function f) is ∙ ap (λ (n : ℕ). functions_spots n (filter_map (function_in s) is)) e in
    map-append (λ (q : Spot × Place). q.0) (function_places text f g) (items_places text (next_function f) is)
    ∙ (ap (λ (l : List Spot). l ++ spots_in (items_places text (next_function f) is)) (function_in_order text s f g) ∙ ap (λ (l : List Spot). function_spots f.0 (function_of s g) ++ l) more)
items_in_order text s f (syntax.Aside ∷ is) = items_in_order text s f is
items_in_order text s f (syntax.Constant t bytes ∷ is) = items_in_order text s f is
items_in_order text s f (syntax.Group t attrs ∷ is) = items_in_order text s f is
items_in_order text s f (syntax.List t nodes ∷ is) = items_in_order text s f is
items_in_order text s f (syntax.Node t elems ∷ is) = items_in_order text s f is

pub all_in_order : (text : List ℕ) (items : List ItemSyntax) → spots_in (places_of text items) ≡ spots (module_of text items)
all_in_order text items = ap (λ (l : List Spot). spot.Module ∷ l) (items_in_order text (told text items) (record { 0 = 0 }) items)
