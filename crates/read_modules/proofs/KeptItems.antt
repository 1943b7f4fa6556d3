-- What functions, nodes and whole texts keep.
use Rattle.std.proofs.Common.{◌≡◌, ℕ, ◌^◌, ◌<◌, ◌≤◌, true, Option, None, Some, List, refl, arith, lit<}
use Rattle.grammar.specs.Grammar.{Grammar}
use Rattle.ir_module.specs.Printable.{type_fits}
use Rattle.ir_tokens.specs.declared.kind.Kind.{Kind}
use Rattle.ir_tokens.specs.declared.kind.Kind.TheVariants as kind
use Rattle.ir_tokens.specs.declared.token.Token.{Token}
use Rattle.ir_tokens.specs.Tokens.{tokens}
use Rattle.ir_grammar.specs.declared.tree.BlockSyntax.{BlockSyntax}
use Rattle.ir_grammar.specs.declared.tree.ParamSyntax.{ParamSyntax}
use Rattle.ir_grammar.specs.declared.tree.FunctionSyntax.{FunctionSyntax}
use Rattle.ir_grammar.specs.declared.tree.PartSyntax.{PartSyntax}
use Rattle.ir_grammar.specs.declared.tree.PartSyntax.TheVariants as part_tree
use Rattle.ir_grammar.specs.declared.tree.ElemSyntax.{ElemSyntax}
use Rattle.ir_grammar.specs.declared.tree.ElemSyntax.TheVariants as elem_tree
use Rattle.ir_grammar.specs.declared.tree.ItemSyntax.{ItemSyntax}
use Rattle.ir_grammar.specs.declared.tree.ItemSyntax.TheVariants as item_tree
use Rattle.ir_grammar.specs.SideRules.{number, is_negative, fits, bits_of_sign}
use Rattle.ir_grammar.specs.Functions.{head, declared_param, param, params_of, declaration, definition}
use Rattle.ir_grammar.specs.Metadata.{in_width, bit_of, bit_part, width_part, integer_part, part, parts, bang_elem, elem, elems, list_line, node_line}
use Rattle.ir_grammar.specs.Module.{header, constant_line, attribute_group, function, metadata, item, module_text}
use Rattle.read_modules.proofs.Each.{Each, Each-weaker}
use Rattle.read_modules.proofs.Keeping.{Keeps, keeps_tok, keeps_seq, keeps_alt, keeps_rep, keeps_tree, keeps_dep, keeps_any, keeps_listed}
use Rattle.read_modules.proofs.KeptTypes.{return_kept, whole_fits}
use Rattle.read_modules.proofs.Scene.{Told}
use Rattle.read_modules.proofs.KeptOperands.{keeps_behind, keeps_before, sign_fits, unless_none}
use Rattle.read_modules.proofs.KeptInstructions.{TypeKept, solid_kept, worded_kept}
use Rattle.read_modules.proofs.KeptBlocks.{BlockKept, IsBody, blocks_kept}

-- Functions.

pub record ParamKept (p : ParamSyntax) : Type 0 where
  pub type : TypeKept p.ty

pub record Nameless (p : ParamSyntax) : Type 0 where
  pub none : p.name ≡ None

-- a body has a block, and a declaration has no names
abbrev pub BodyKept : (Token → List ℕ) → List ParamSyntax → Option (List BlockSyntax) → Type 0
BodyKept spelling params None = Each Nameless params
BodyKept spelling params (Some ks) = IsBody ks × Each (BlockKept spelling) ks

pub record FunctionKept (spelling : Token → List ℕ) (f : FunctionSyntax) : Type 0 where
  pub ret : type_fits f.ret ≡ true
  pub params : Each ParamKept f.params
  pub body : BodyKept spelling f.params f.blocks

-- Nodes.

-- an integer of a width from 1 to 128
abbrev pub PartKept : PartSyntax → Type 0
PartKept (part_tree.Integer w negative n) = (1 ≤ w) × (w ≤ 128) × (bits_of_sign w negative n < 2 ^ w)
PartKept (part_tree.Text t) = Unit

abbrev pub ElemKept : ElemSyntax → Type 0
ElemKept (elem_tree.Part p) = PartKept p
ElemKept (elem_tree.Node t) = Unit
ElemKept elem_tree.Null = Unit
ElemKept (elem_tree.Parts ps) = Each PartKept ps

abbrev pub ItemKept : (Token → List ℕ) → ItemSyntax → Type 0
ItemKept spelling (item_tree.Function f) = FunctionKept spelling f
ItemKept spelling (item_tree.Node t es) = Each ElemKept es
ItemKept spelling i = Unit

bit_kept : (k : Kind) → PartKept (bit_of k)
bit_kept kind.True = (omega arith, omega arith, lit< tt)
bit_kept k = (omega arith, omega arith, lit< tt)

module _ {spelling : Token → List ℕ} where
  head_kept : Keeps (Told spelling) head (λ h. type_fits h.0.ty ≡ true)
  unfolding head
  head_kept = keeps_tree _ _ (keeps_seq {Q = λ u. Unit {0}} _ _ (keeps_any _) (keeps_seq {R = λ u. Unit {0}} _ _ return_kept (keeps_any _))) (λ p q. whole_fits p.1.0 q.1.0)

  declared_kept : Keeps (Told spelling) declared_param (λ p. ParamKept p × Nameless p)
  unfolding declared_param
  declared_kept = keeps_tree _ _ worded_kept (λ x s. (record { type = solid_kept x s }, record { none = refl }))

  param_kept : Keeps (Told spelling) param ParamKept
  unfolding param
  param_kept = keeps_tree _ _ (keeps_seq {R = λ u. Unit {0}} _ _ worded_kept (keeps_any _)) (λ p q. record { type = solid_kept p.0 q.0 })

  params_kept : {Q : ParamSyntax → Type 0} (a : Grammar tokens ParamSyntax) → Keeps (Told spelling) a Q → Keeps (Told spelling) (params_of a) (Each Q)
  unfolding params_of
  params_kept a h = keeps_behind _ _ (keeps_before _ _ (keeps_listed _ a h))

  declaration_kept : Keeps (Told spelling) declaration (FunctionKept spelling)
  unfolding declaration
  declaration_kept = keeps_tree _ _ (keeps_behind _ _ (keeps_seq _ _ head_kept (keeps_seq {R = λ u. Unit {0}} _ _ (params_kept _ declared_kept) (keeps_any _)))) (λ p q. record {
    ret = q.0;
    params = Each-weaker _ _ (λ x h. h.0) p.1.0 q.1.0;
    body = Each-weaker _ _ (λ x h. h.1) p.1.0 q.1.0;
  })

  definition_kept : Keeps (Told spelling) definition (FunctionKept spelling)
  unfolding definition
  definition_kept = keeps_tree _ _ (keeps_behind _ _ (keeps_seq _ _ head_kept (keeps_seq _ _ (params_kept _ param_kept) (keeps_seq {Q = λ u. Unit {0}} _ _ (keeps_any _) blocks_kept)))) (λ p q. record {
    ret = q.0;
    params = q.1.0;
    body = q.1.1.1;
  })

  in_width_kept : (w : ℕ) → 1 ≤ w → w ≤ 128 → Keeps (Told spelling) (in_width w) PartKept
  unfolding in_width
  in_width_kept w l h = keeps_tree _ _ (keeps_tok {Q = λ t. fits w (is_negative t.kind) (number t) ≡ true} _ _ (λ t p i e. unless_none _ e)) (λ t q. (l, h, sign_fits w (is_negative t.kind) (number t) q))

  integer_part_kept : Keeps (Told spelling) integer_part PartKept
  unfolding integer_part bit_part width_part
  integer_part_kept = keeps_alt _ _
      (keeps_behind _ _ (keeps_alt _ _ (in_width_kept 1 (omega arith) (omega arith)) (keeps_tree _ _ (keeps_any _) (λ t _. bit_kept t.kind))))
      (keeps_tree _ _ (keeps_dep {R = λ w. PartKept} _ _ _ (keeps_tree {R = λ w. (1 ≤ w) × (w ≤ 128)} _ _ (keeps_tok {Q = λ t. (1 ≤ number t) × (number t ≤ 128)} _ _ (λ t p i e. p.width i)) (λ t q. q)) (λ w q. in_width_kept w q.0 q.1)) (λ p q. q.1))

  part_kept : Keeps (Told spelling) part PartKept
  unfolding part
  part_kept = keeps_alt _ _ integer_part_kept (keeps_tree _ _ (keeps_any _) (λ t _. tt))

  bang_kept : Keeps (Told spelling) bang_elem ElemKept
  unfolding bang_elem parts
  bang_kept = keeps_behind _ _ (keeps_alt _ _ (keeps_tree _ _ (keeps_any _) (λ t _. tt)) (keeps_tree _ _ (keeps_behind _ _ (keeps_before _ _ (keeps_listed _ _ part_kept))) (λ ps q. q)))

  elem_kept : Keeps (Told spelling) elem ElemKept
  unfolding elem
  elem_kept = keeps_alt _ _ (keeps_tree _ _ integer_part_kept (λ p q. q)) (keeps_alt _ _ (keeps_tree _ _ (keeps_any _) (λ t _. tt)) (keeps_alt _ _ (keeps_tree _ _ (keeps_any _) (λ t _. tt)) bang_kept))

  node_kept : Keeps (Told spelling) node_line (ItemKept spelling)
  unfolding node_line elems
  node_kept = keeps_tree _ _ (keeps_seq {Q = λ u. Unit {0}} _ _ (keeps_any _) (keeps_behind _ _ (keeps_behind _ _ (keeps_before _ _ (keeps_listed _ _ elem_kept))))) (λ p q. q.1)

  item_kept : Keeps (Told spelling) item (ItemKept spelling)
  unfolding item header constant_line function metadata attribute_group list_line
  item_kept = keeps_alt _ _ (keeps_tree _ _ (keeps_any _) (λ t _. tt))
      (keeps_alt _ _ (keeps_tree _ _ (keeps_any _) (λ t _. tt))
      (keeps_alt _ _ (keeps_tree _ _ (keeps_alt _ _ declaration_kept definition_kept) (λ f q. q))
      (keeps_alt _ _ (keeps_tree _ _ (keeps_any _) (λ t _. tt))
      (keeps_alt _ _ (keeps_tree _ _ (keeps_any _) (λ t _. tt)) node_kept))))

  pub text_kept : Keeps (Told spelling) module_text (Each (ItemKept spelling))
  unfolding module_text
  text_kept = keeps_before _ _ (keeps_rep _ item_kept)
