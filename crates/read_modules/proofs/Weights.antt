-- Each part of a tree has tokens of its own: a rule for each form of grammars, and the counts in a text.
use Rattle.std.proofs.Common.{◌≡◌, ℕ, ◌+◌, ◌-◌, ◌*◌, ◌≤◌, Option, None, Some, List, [], ◌∷◌, length, sym, ap, subst, inl, inr, arith}
use Rattle.std.specs.List.{sum_by}
use Rattle.std.proofs.lemmas.List.{length-append}
use Rattle.std.proofs.lemmas.List.Sums.{sum_by-cons}
use Rattle.grammar.specs.Grammar.{Alphabet, Grammar, tok, seq, alt, opt, rep, as_tree, dep, marked, preceded, listed, any, cons, or_none, second}
use Rattle.grammar.specs.Language.{Derives}
use Rattle.ir_tokens.specs.declared.kind.Kind.{Kind}
use Rattle.ir_tokens.specs.declared.token.Token.{Token}
use Rattle.ir_tokens.specs.Tokens.{tokens}
use Rattle.ir_grammar.specs.declared.tree.BlockSyntax.{BlockSyntax}
use Rattle.ir_grammar.specs.declared.tree.FunctionSyntax.{FunctionSyntax}
use Rattle.ir_grammar.specs.declared.tree.ItemSyntax.{ItemSyntax}
use Rattle.ir_grammar.specs.declared.tree.ItemSyntax.TheVariants as item_tree
use Rattle.ir_grammar.specs.declared.tree.ParamSyntax.{ParamSyntax}
use Rattle.ir_grammar.specs.Forms.{first, ◌▸◌, ◌◂◌}
use Rattle.ir_grammar.specs.Words.{global, label, node}
use Rattle.ir_grammar.specs.Types.{plain_type, byte_type, qubit_type, result_type, void_type, base_type, value_type_at}
use Rattle.ir_grammar.specs.Instructions.{worded_type}
use Rattle.ir_grammar.specs.Blocks.{block, blocks}
use Rattle.ir_grammar.specs.Functions.{declared_param, param, params_of, declaration, definition}
use Rattle.ir_grammar.specs.Metadata.{nodes, list_line, node_line}
use Rattle.ir_grammar.specs.Module.{header, constant_line, attribute_group, function, metadata, item, module_text}

-- a tree has at least so many tokens
pub record Weighs {L : Alphabet} {A : Type 0} (g : Grammar L A) (weight : A → ℕ) : Type 0 where
  pub weighed : (ts : List L.Token) (x : A) → Derives g ts x → weight x ≤ length ts

nothing_weighs : {L : Alphabet} {A : Type 0} (g : Grammar L A) → Weighs g (λ _. 0)
nothing_weighs g = record { weighed = λ ts x d. omega arith }

tok_weighs : {L : Alphabet} (s : List L.Kind) (p : L.Token → Option L.Rule) → Weighs {L = L} (tok s p) (λ _. 1)
tok_weighs s p = record { weighed = λ ts t d. let l = ap length d.0 in omega arith }

seq_weighs : {L : Alphabet} {A B : Type 0} {v : A → ℕ} {w : B → ℕ} (a : Grammar L A) (b : Grammar L B) → Weighs a v → Weighs b w → Weighs (seq a b) (λ p. v p.0 + w p.1)
seq_weighs a b h k = record { weighed = λ ts x (us, vs, e, l, r). let i = h.weighed us x.0 l in let j = k.weighed vs x.1 r in let m = ap length e in let n = length-append us vs in omega arith }

alt_weighs : {L : Alphabet} {A : Type 0} {w : A → ℕ} (a b : Grammar L A) → Weighs a w → Weighs b w → Weighs (alt a b) w
alt_weighs {w = w} a b h k = record { weighed = λ ts x d. elim d as (λ _. w x ≤ length ts) [ inl l ↦ h.weighed ts x l | inr r ↦ k.weighed ts x r ] }

tree_weighs : {L : Alphabet} {A B : Type 0} {v : A → ℕ} {w : B → ℕ} (f : A → B) (a : Grammar L A) → Weighs a v → ((x : A) → w (f x) ≤ v x) → Weighs (as_tree f a) w
tree_weighs {w = w} f a h l = record { weighed = λ ts y (x, d, e). let i = h.weighed ts x d in let j = l x in subst (λ z. w z ≤ length ts) (sym e) (omega arith) }

dep_weighs : {L : Alphabet} {A B : Type 0} {v : A → ℕ} (a : Grammar L A) (s : List L.Kind) (f : A → Grammar L B) → Weighs a v → Weighs (dep a s f) (λ p. v p.0)
dep_weighs a s f h = record { weighed = λ ts x (us, vs, e, l, r). let i = h.weighed us x.0 l in let m = ap length e in let n = length-append us vs in omega arith }

marked_weighs : {L : Alphabet} {A : Type 0} {w : A → ℕ} (a : Grammar L A) → Weighs a w → Weighs (marked a) w
marked_weighs a h = record { weighed = h.weighed }

rep_weighed : {L : Alphabet} {A : Type 0} {w : A → ℕ} (a : Grammar L A) → Weighs a w → (ts : List L.Token) (xs : List A) → Derives (rep a) ts xs → sum_by w xs ≤ length ts
rep_weighed a h ts [] d = omega arith
rep_weighed {w = w} a h ts (x ∷ xs) (us, vs, e, l, r) = let i = h.weighed us x l in let j = rep_weighed a h vs xs r in let c = sum_by-cons w x xs in let m = ap length e in let n = length-append us vs in omega arith

rep_weighs : {L : Alphabet} {A : Type 0} {w : A → ℕ} (a : Grammar L A) → Weighs a w → Weighs (rep a) (sum_by w)
rep_weighs a h = record { weighed = rep_weighed a h }

weighs_less : {L : Alphabet} {A : Type 0} {v w : A → ℕ} (a : Grammar L A) → Weighs a v → ((x : A) → w x ≤ v x) → Weighs a w
weighs_less a h l = record { weighed = λ ts x d. let i = h.weighed ts x d in let j = l x in omega arith }

sum_of : {A : Type 0} (n : ℕ) (xs : List A) → sum_by (λ _. n) xs ≡ n * length xs
sum_of n [] = omega arith
sum_of n (x ∷ xs) = let e = sum_of n xs in let c = sum_by-cons (λ y. n) x xs in omega arith

abbrev weight_of : {A : Type 0} → (A → ℕ) → Option A → ℕ
weight_of w None = 0
weight_of w (Some x) = w x

opt_weighed : {L : Alphabet} {A : Type 0} {w : A → ℕ} (a : Grammar L A) → Weighs a w → (ts : List L.Token) (o : Option A) → Derives (opt a) ts o → weight_of w o ≤ length ts
opt_weighed a h ts None d = omega arith
opt_weighed a h ts (Some x) d = h.weighed ts x d

-- [ a { s a } ]: one token each, and one between each two
listed_weighs : {L : Alphabet} {A : Type 0} (s : List L.Kind) (a : Grammar L A) → Weighs a (λ _. 1) → Weighs (listed s a) (λ xs. 2 * length xs - 1)
unfolding listed preceded
listed_weighs s a h =
    let one_more = tree_weighs {w = λ _. 2} second _ (seq_weighs (tok s any) a (tok_weighs s any) h) (λ p. omega arith) in
    let all = tree_weighs {w = λ xs. 2 * length xs - 1} cons _ (seq_weighs a (rep _) h (rep_weighs _ one_more)) (λ p. let e = sum_of 2 p.1 in omega arith) in
    tree_weighs or_none _ (record { weighed = opt_weighed _ all }) (λ o. elim o as (λ o. 2 * length (or_none o) - 1 ≤ weight_of (λ xs. 2 * length xs - 1) o) [ None ↦ omega arith | Some xs ↦ omega arith ])

-- k and a, and a and k

behind_weighs : {A : Type 0} {w : A → ℕ} (k : Kind) (a : Grammar tokens A) → Weighs a w → Weighs (k ▸ a) (λ x. 1 + w x)
behind_weighs {w = w} k a h = tree_weighs {w = λ x. 1 + w x} second _ (seq_weighs _ a (tok_weighs _ _) h) (λ p. omega arith)

before_weighs : {A : Type 0} {w : A → ℕ} (a : Grammar tokens A) (k : Kind) → Weighs a w → Weighs (a ◂ k) (λ x. w x + 1)
before_weighs {w = w} a k h = tree_weighs {w = λ x. w x + 1} first _ (seq_weighs a _ h (tok_weighs _ _)) (λ p. omega arith)

-- Types and parameters.

base_weighs : Weighs base_type (λ _. 1)
unfolding base_type plain_type byte_type qubit_type result_type
base_weighs = alt_weighs _ _ (tree_weighs _ _ (tok_weighs _ _) (λ x. omega arith)) (alt_weighs _ _
    (tree_weighs _ _ (seq_weighs _ _ (tok_weighs _ _) (nothing_weighs _)) (λ x. omega arith)) (alt_weighs _ _
    (tree_weighs _ _ (before_weighs _ _ (tok_weighs _ _)) (λ x. omega arith))
    (tree_weighs _ _ (before_weighs _ _ (tok_weighs _ _)) (λ x. omega arith))))

value_weighs : Weighs (value_type_at 64) (λ _. 1)
unfolding value_type_at void_type
value_weighs = marked_weighs _ (tree_weighs _ _ (dep_weighs _ _ _ (alt_weighs {w = λ _. 1} _ _ base_weighs (tree_weighs _ _ (dep_weighs _ _ _ (tree_weighs {w = λ _. 1} _ _ (tok_weighs _ _) (λ x. omega arith))) (λ x. omega arith)))) (λ x. omega arith))

worded_weighs : Weighs worded_type (λ _. 1)
unfolding worded_type
worded_weighs = tree_weighs _ _ (seq_weighs _ _ value_weighs (nothing_weighs _)) (λ x. omega arith)

declared_weighs : Weighs declared_param (λ _. 1)
unfolding declared_param
declared_weighs = tree_weighs _ _ worded_weighs (λ x. omega arith)

param_weighs : Weighs param (λ _. 1)
unfolding param
param_weighs = tree_weighs _ _ (seq_weighs _ _ worded_weighs (nothing_weighs _)) (λ x. omega arith)

params_weigh : (a : Grammar tokens ParamSyntax) → Weighs a (λ _. 1) → Weighs (params_of a) length
unfolding params_of
params_weigh a h = weighs_less _ (behind_weighs _ _ (before_weighs _ _ (listed_weighs _ a h))) (λ ps. omega arith)

-- Functions.

block_weighs : Weighs block (λ _. 1)
unfolding block label
block_weighs = tree_weighs _ _ (seq_weighs _ _ (tok_weighs _ _) (nothing_weighs _)) (λ x. omega arith)

blocks_weigh : Weighs blocks length
unfolding blocks
blocks_weigh = weighs_less _ (behind_weighs _ _ (before_weighs _ _ (tree_weighs {w = λ ks. length ks - 1} _ _ (seq_weighs _ _ (nothing_weighs _) (rep_weighs _ block_weighs)) (λ p. let e = sum_of 1 p.1 in omega arith)))) (λ ks. omega arith)

abbrev pub blocks_in : Option (List BlockSyntax) → ℕ
blocks_in None = 0
blocks_in (Some ks) = length ks

-- a function, its parameters and its blocks
abbrev pub function_weight : FunctionSyntax → ℕ
function_weight f = 1 + (length f.params + blocks_in f.blocks)

declaration_weighs : Weighs declaration function_weight
unfolding declaration
declaration_weighs = tree_weighs _ _ (behind_weighs _ _ (seq_weighs _ _ (nothing_weighs _) (seq_weighs _ _ (params_weigh _ declared_weighs) (nothing_weighs _)))) (λ p. omega arith)

definition_weighs : Weighs definition function_weight
unfolding definition
definition_weighs = tree_weighs _ _ (behind_weighs _ _ (seq_weighs _ _ (nothing_weighs _) (seq_weighs _ _ (params_weigh _ param_weighs) (seq_weighs _ _ (nothing_weighs _) blocks_weigh)))) (λ p. omega arith)

-- Items.

abbrev pub weight : ItemSyntax → ℕ
weight item_tree.Aside = 0
weight (item_tree.Constant t bytes) = 1
weight (item_tree.Function f) = function_weight f
weight (item_tree.Group t attrs) = 0
weight (item_tree.List t ns) = 2 * length ns
weight (item_tree.Node t es) = 0

constant_weighs : Weighs constant_line weight
unfolding constant_line global
constant_weighs = tree_weighs _ _ (seq_weighs _ _ (before_weighs _ _ (tok_weighs _ _)) (nothing_weighs _)) (λ p. omega arith)

list_weighs : Weighs list_line weight
unfolding list_line nodes node
list_weighs = tree_weighs _ _ (seq_weighs _ _ (nothing_weighs _) (behind_weighs _ _ (behind_weighs _ _ (before_weighs _ _ (listed_weighs _ _ (tok_weighs _ _)))))) (λ p. omega arith)

item_weighs : Weighs item weight
unfolding item header function metadata attribute_group node_line
item_weighs = alt_weighs _ _ (tree_weighs _ _ (nothing_weighs _) (λ x. omega arith)) (alt_weighs _ _ constant_weighs (alt_weighs _ _
    (tree_weighs _ _ (alt_weighs _ _ declaration_weighs definition_weighs) (λ x. omega arith))
    (alt_weighs _ _ (tree_weighs _ _ (nothing_weighs _) (λ x. omega arith)) (alt_weighs _ _ list_weighs (tree_weighs _ _ (nothing_weighs _) (λ x. omega arith))))))

-- the items of a text have so many tokens
pub text_weighs : (ts : List Token) (items : List ItemSyntax) → Derives module_text ts items → sum_by weight items ≤ length ts
unfolding module_text
text_weighs ts items d = let w : Weighs module_text (λ xs. sum_by weight xs + 1) = before_weighs _ _ (rep_weighs _ item_weighs) in let l = w.weighed ts items d in omega arith
