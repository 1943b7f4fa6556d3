-- What instructions keep.
use Rattle.std.specs.Prelude.{if◌then◌else◌, nat_le}
use Rattle.std.proofs.Common.{◌≡◌, ℕ, Bool, true, false, not, Option, None, Some, List, [], ◌∷◌, ◌++◌, map, refl, sym, subst, arith}
use Rattle.std.specs.List.{list_all, flat_map}
use Rattle.std.proofs.lemmas.Bool.{and_from, and_parts, or_right}
use Rattle.grammar.specs.Grammar.{dep, has}
use Rattle.ir_values.specs.Arithmetic.{may_wrap, may_leave, allows}
use Rattle.ir_values.specs.declared.int.BinOp.{BinOp}
use Rattle.ir_values.specs.declared.int.Flags.{Flags}
use Rattle.ir_values.specs.declared.int.Width.{Width}
use Rattle.ir_values.specs.declared.int.Width.TheVariants as width
use Rattle.ir_values.specs.declared.ty.Ty.{Ty}
use Rattle.ir_values.specs.declared.ty.Ty.TheVariants as ty
use Rattle.ir_values.specs.Types.{is_ty}
use Rattle.ir_module.specs.declared.tree.Callee.TheVariants as callee
use Rattle.ir_module.specs.declared.tree.Function.{Function}
use Rattle.ir_module.specs.declared.tree.Module.{Module}
use Rattle.ir_module.specs.declared.tree.Operand.{Operand}
use Rattle.ir_module.specs.Numbered.{is_void, is_written, operand_in_range, is_call}
use Rattle.ir_module.specs.Operands.{callee_operand}
use Rattle.ir_module.specs.Printable.{type_fits, value_type_fits, typed_fits, operand_fits, result_type}
use Rattle.ir_tokens.specs.declared.kind.Kind.{Kind}
use Rattle.ir_tokens.specs.declared.kind.Kind.TheVariants as kind
use Rattle.ir_tokens.specs.declared.token.Token.{Token}
use Rattle.ir_tokens.specs.Tokens.{tokens}
use Rattle.ir_grammar.specs.declared.tree.TypeSyntax.{TypeSyntax}
use Rattle.ir_grammar.specs.declared.tree.OperandSyntax.{OperandSyntax}
use Rattle.ir_grammar.specs.declared.tree.ArgSyntax.{ArgSyntax}
use Rattle.ir_grammar.specs.declared.tree.InstSyntax.{InstSyntax}
use Rattle.ir_grammar.specs.declared.tree.InstSyntax.TheVariants as syntax
use Rattle.ir_grammar.specs.Forms.{◌or◌}
use Rattle.ir_grammar.specs.Types.{integer_type}
use Rattle.ir_grammar.specs.Operands.{integer_operand}
use Rattle.ir_grammar.specs.Instructions.{binary_of, no_flags, with_flag, exact_of, not_yet, wrap_flag, wrapping_words, wrapping, exact_words, exacting, flagless, operand_pair, operand_pairs, binary, compare, convert, typed_operand, condition, select, worded_type, argument, arguments, call}
use Rattle.ir_grammar.specs.Blocks.{valued}
use Rattle.ir_names.specs.Faults.{unknown}
use Rattle.ir_names.specs.Functions.{type_of}
use Rattle.ir_names.specs.Instructions.{arg_faults, arg_of, is_global, callee_faults, callee_of, what_faults, what_of}
use Rattle.ir_names.specs.Operands.{operand_faults, operand_of}
use Rattle.ir_names.specs.Sense.{Sense, func_id, local_id}
use Rattle.read_modules.proofs.Each.{Each, Each-map, Each-weaker, list_all-each, none_left, none_right, none_each, Each-both}
use Rattle.read_modules.proofs.Keeping.{Keeps, keeps_tok, keeps_seq, keeps_alt, keeps_tree, keeps_dep, keeps_grow, keeps_any, keeps_weaker, keeps_listed}
use Rattle.read_modules.proofs.KeptTypes.{Solid, value_kept, return_kept, whole_fits}
use Rattle.read_modules.proofs.Scene.{Told, Fair, known_below, Right, RightKind}
use Rattle.read_modules.proofs.KeptOperands.{keeps_behind, keeps_before, OperandKept, integer_operand_kept, operand_kept}

-- The types of the tree.

-- a type that fits, and is not `void`
pub record TypeKept (t : Ty) : Type 0 where
  pub fits : type_fits t ≡ true
  pub solid : is_void t ≡ false

pub solid_kept : (x : TypeSyntax) → Solid 64 x → TypeKept x.ty
solid_kept x s = record { fits = whole_fits x s.whole; solid = s.solid }

pub not_false : (b : Bool) → b ≡ false → not b ≡ true
not_false true e = absurd (cc)
not_false false e = refl

pub value_fits : (t : Ty) → TypeKept t → value_type_fits t ≡ true
value_fits t k = and_from (not (is_void t)) (type_fits t) (not_false (is_void t) k.solid) k.fits

pub type_whole : (t : Ty) → type_fits t ≡ true → is_ty t ≡ true
type_whole t h = (and_parts (is_ty t) _ h).0

-- What an instruction keeps.

pub record WhatKept (spelling : Token → List ℕ) (i : InstSyntax) : Type 0 where
  pub right : (m : Module) (f : Function) (s : Sense) → Fair spelling m f s → what_faults s i ≡ [] → RightKind m f (what_of s i)
  pub fits : type_fits (type_of i) ≡ true

-- what it defines has its type
pub result_is : (s : Sense) (i : InstSyntax) → result_type (what_of s i) ≡ type_of i
result_is s (syntax.Binary o flags t a b) = refl
result_is s (syntax.Icmp p t a b) = refl
result_is s (syntax.Convert c t a to) = refl
result_is s (syntax.Select c t a u b) = refl
result_is s (syntax.Call t name args gs) = refl

-- Flags.

wraps : (k : Kind) → has tokens wrapping_words k ≡ true → may_wrap (binary_of k) ≡ true
wraps kind.Add h = refl
wraps kind.Sub h = refl
wraps kind.Mul h = refl
wraps kind.Shl h = refl
wraps k h = absurd (cc)

leaves : (k : Kind) → has tokens exact_words k ≡ true → may_leave (binary_of k) ≡ true
leaves kind.UDiv h = refl
leaves kind.SDiv h = refl
leaves kind.LShr h = refl
leaves kind.AShr h = refl
leaves k h = absurd (cc)

one_of_both : (a b : Bool) (k : Kind) → has tokens (not_yet a kind.Nuw ++ not_yet b kind.Nsw) k ≡ true → has tokens (kind.Nuw ∷ kind.Nsw ∷ []) k ≡ true
one_of_both true true k h = absurd (cc)
one_of_both true false k h = or_right _ _ h
one_of_both false true k h = grind (arith, h)
one_of_both false false k h = h

flag_inexact : (f : Flags) (k : Kind) → has tokens (kind.Nuw ∷ kind.Nsw ∷ []) k ≡ true → f.exact ≡ false → (with_flag f k).exact ≡ false
flag_inexact f kind.Nuw h e = e
flag_inexact f kind.Nsw h e = e
flag_inexact f k h e = absurd (cc)

wrapping_allows : (o : BinOp) (f : Flags) → may_wrap o ≡ true → f.exact ≡ false → allows o f ≡ true
wrapping_allows o f h e = rw (h, e) (or_right (may_leave o) true refl)

exact_allows : (o : BinOp) (t : Option Token) → may_leave o ≡ true → allows o (exact_of t) ≡ true
exact_allows o None h = rw h (and_from _ _ (or_right (may_wrap o) true refl) refl)
exact_allows o (Some t) h = rw h (and_from _ _ (or_right (may_wrap o) true refl) refl)

plain_allows : (o : BinOp) → allows o no_flags ≡ true
plain_allows o = and_from _ _ (or_right (may_wrap o) true refl) (or_right (may_leave o) true refl)

-- the word and the flags of a binary instruction
abbrev Allowed : Token × Flags → Type 0
Allowed p = allows (binary_of p.0.kind) p.1 ≡ true

-- Operands of instructions.

-- two operands of the width that stands before them
abbrev Pair : (Token → List ℕ) → Width × (OperandSyntax × OperandSyntax) → Type 0
Pair spelling p = OperandKept spelling (ty.Int p.0) p.1.0 × OperandKept spelling (ty.Int p.0) p.1.1

-- an operand of the type that stands before it
abbrev Typed : (Token → List ℕ) → TypeSyntax × OperandSyntax → Type 0
Typed spelling p = TypeKept p.0.ty × OperandKept spelling p.0.ty p.1

abbrev ArgKept : (Token → List ℕ) → ArgSyntax → Type 0
ArgKept spelling a = TypeKept a.ty × OperandKept spelling a.ty a.value

-- a call, and that it is one
abbrev pub CallKept : (Token → List ℕ) → Token × InstSyntax → Type 0
CallKept spelling p = WhatKept spelling p.1 × ((s : Sense) → is_call (what_of s p.1) ≡ true)

two_right : (m : Module) (f : Function) (t u : Ty) (a b : Operand) → Right m f t a → Right m f u b → (list_all (operand_in_range m f) (a ∷ b ∷ []) ≡ true) × (list_all is_written (a ∷ b ∷ []) ≡ true)
two_right m f t u a b h k = (and_from _ _ h.in_range (and_from _ _ k.in_range refl), and_from _ _ h.written (and_from _ _ k.written refl))

pub typed_right : (m : Module) (f : Function) (t : Ty) (o : Operand) → TypeKept t → Right m f t o → typed_fits (t, o) ≡ true
typed_right m f t o k r = and_from (value_type_fits t) (operand_fits t o) (value_fits t k) r.fits

module _ {spelling : Token → List ℕ} where
  wrap_flag_kept : (f : Flags) → f.exact ≡ false → Keeps (Told spelling) (wrap_flag f) (λ g. g.exact ≡ false)
  unfolding wrap_flag
  wrap_flag_kept f e = keeps_tree _ _ (keeps_tok {Q = λ t. has tokens (kind.Nuw ∷ kind.Nsw ∷ []) t.kind ≡ true} _ _ (λ t p i n. one_of_both f.nuw f.nsw t.kind i)) (λ t h. flag_inexact f t.kind h e)

  binary_flags_kept : Keeps (Told spelling) (wrapping or exacting or flagless) Allowed
  unfolding wrapping exacting flagless
  binary_flags_kept = keeps_alt _ _
      (keeps_weaker {R = Allowed} _ (keeps_seq _ _ (keeps_tok {Q = λ t. may_wrap (binary_of t.kind) ≡ true} _ _ (λ t p i n. wraps t.kind i)) (keeps_grow {Q = λ g. g.exact ≡ false} no_flags _ wrap_flag refl wrap_flag_kept)) (λ p q. wrapping_allows (binary_of p.0.kind) p.1 q.0 q.1))
      (keeps_alt _ _
      (keeps_weaker {R = Allowed} _ (keeps_seq {R = λ f. (t : Option Token) × (f ≡ exact_of t)} _ _ (keeps_tok {Q = λ t. may_leave (binary_of t.kind) ≡ true} _ _ (λ t p i n. leaves t.kind i)) (keeps_tree exact_of _ (keeps_any _) (λ t _. (t, refl))))
      (λ p q. subst (λ f. allows (binary_of p.0.kind) f ≡ true) (sym q.1.1) (exact_allows (binary_of p.0.kind) q.1.0 q.0)))
      (keeps_tree {R = Allowed} _ _ (keeps_any _) (λ t _. plain_allows (binary_of t.kind))))

  pair_kept : Keeps (Told spelling) operand_pairs (Pair spelling)
  unfolding operand_pairs operand_pair
  pair_kept = keeps_weaker {R = (Pair spelling)} _ (keeps_dep {Q = λ w. Unit {0}} {R = λ w p. OperandKept spelling (ty.Int w) p.0 × OperandKept spelling (ty.Int w) p.1} _ _ _ (keeps_any _) (λ w _. keeps_seq _ _ (keeps_before _ _ (integer_operand_kept w)) (integer_operand_kept w))) (λ p q. q.1)

  pair_right : (m : Module) (f : Function) (s : Sense) (w : Width) (a b : OperandSyntax) → Pair spelling (w, (a, b)) → Fair spelling m f s → operand_faults s a ++ operand_faults s b ≡ [] → Right m f (ty.Int w) (operand_of s a) × Right m f (ty.Int w) (operand_of s b)
  pair_right m f s w a b p fair e = (p.0.right m f s fair (none_left _ _ e), p.1.right m f s fair (none_right _ _ e))

  binary_kept : Keeps (Told spelling) binary (WhatKept spelling)
  unfolding binary
  binary_kept = keeps_tree {R = WhatKept spelling} _ _ (keeps_seq _ _ binary_flags_kept pair_kept) (λ p q. record {
    right = λ m f s fair e. let r = pair_right m f s p.1.0 p.1.1.0 p.1.1.1 q.1 fair e in let both = two_right m f _ _ _ _ r.0 r.1 in
        record { fits = and_from _ _ r.0.fits r.1.fits; flags = q.0; integers = refl; solid = refl; whole = refl; in_range = both.0; written = both.1 };
    fits = refl;
  })

  compare_kept : Keeps (Told spelling) compare (WhatKept spelling)
  unfolding compare
  compare_kept = keeps_tree {R = WhatKept spelling} _ _ (keeps_behind _ _ (keeps_seq {Q = λ p. Unit {0}} _ _ (keeps_any _) pair_kept)) (λ p q. record {
    right = λ m f s fair e. let r = pair_right m f s p.1.0 p.1.1.0 p.1.1.1 q.1 fair e in let both = two_right m f _ _ _ _ r.0 r.1 in
        record { fits = and_from _ _ r.0.fits r.1.fits; flags = refl; integers = refl; solid = refl; whole = refl; in_range = both.0; written = both.1 };
    fits = refl;
  })

  pub typed_integer_kept : Keeps (Told spelling) (dep integer_type [] integer_operand) (λ p. OperandKept spelling (ty.Int p.0) p.1)
  typed_integer_kept = keeps_weaker _ (keeps_dep {Q = λ w. Unit {0}} {R = λ w a. OperandKept spelling (ty.Int w) a} _ _ _ (keeps_any _) (λ w _. integer_operand_kept w)) (λ p q. q.1)

  convert_kept : Keeps (Told spelling) convert (WhatKept spelling)
  unfolding convert
  convert_kept = keeps_tree {R = WhatKept spelling} _ _ (keeps_seq {Q = λ t. Unit {0}} _ _ (keeps_any _) (keeps_seq {R = λ w. Unit {0}} _ _ (keeps_before _ _ typed_integer_kept) (keeps_any _))) (λ p q. record {
    right = λ m f s fair e. let r = q.1.0.right m f s fair e in
        record {
          fits = and_from _ _ (and_from _ _ refl r.fits) refl;
          flags = refl;
          integers = refl;
          solid = refl;
          whole = refl;
          in_range = and_from _ _ r.in_range refl;
          written = and_from _ _ r.written refl;
        };
    fits = refl;
  })

  typed_kept : Keeps (Told spelling) typed_operand (Typed spelling)
  unfolding typed_operand
  typed_kept = keeps_weaker {R = (Typed spelling)} _ (keeps_dep {R = λ x a. OperandKept spelling x.ty a} _ _ _ value_kept (λ x s. operand_kept x.ty)) (λ p q. (solid_kept p.0 q.0, q.1))

  pub condition_kept : Keeps (Told spelling) condition (OperandKept spelling (ty.Int width.W1))
  unfolding condition
  condition_kept = keeps_behind _ _ (keeps_before _ _ (integer_operand_kept width.W1))

  select_kept : Keeps (Told spelling) select (WhatKept spelling)
  unfolding select
  select_kept = keeps_tree {R = WhatKept spelling} _ _ (keeps_behind _ _ (keeps_seq _ _ condition_kept (keeps_seq _ _ (keeps_before _ _ typed_kept) typed_kept))) (λ p q. record {
    right = λ m f s fair e.
        let c = q.0.right m f s fair (none_left _ _ e) in
        let e' = none_right (operand_faults s p.0) _ e in
        let a = q.1.0.1.right m f s fair (none_left _ _ e') in
        let b = q.1.1.1.right m f s fair (none_right (operand_faults s p.1.0.1) _ e') in
        let both = two_right m f _ _ _ _ a b in
        record {
          fits = and_from _ _ c.fits (and_from _ _ (typed_right m f _ _ q.1.0.0 a) (typed_right m f _ _ q.1.1.0 b));
          flags = refl;
          integers = refl;
          solid = and_from _ _ (not_false _ q.1.0.0.solid) (not_false _ q.1.1.0.solid);
          whole = refl;
          in_range = and_from _ _ c.in_range both.0;
          written = and_from _ _ c.written both.1;
        };
    fits = q.1.0.0.fits;
  })

  -- Calls.

  pub worded_kept : Keeps (Told spelling) worded_type (Solid 64)
  unfolding worded_type
  worded_kept = keeps_tree {R = Solid 64} _ _ (keeps_seq {R = λ u. Unit {0}} _ _ value_kept (keeps_any _)) (λ p q. q.0)

  argument_kept : Keeps (Told spelling) argument (ArgKept spelling)
  unfolding argument
  argument_kept = keeps_tree {R = (ArgKept spelling)} _ _ (keeps_dep {R = λ x a. OperandKept spelling x.ty a} _ _ _ worded_kept (λ x s. operand_kept x.ty)) (λ p q. (solid_kept p.0 q.0, q.1))

  arguments_kept : Keeps (Told spelling) arguments (Each (ArgKept spelling))
  unfolding arguments
  arguments_kept = keeps_behind _ _ (keeps_before _ _ (keeps_listed _ _ argument_kept))

  callee_cases : (m : Module) (f : Function) (s : Sense) (t : Token) → Fair spelling m f s → (b : Bool) → (if b then unknown t (s.function (s.name t)) else unknown t (s.value (s.name t))) ≡ []
      → let o = callee_operand (if b then callee.Func (func_id (s.function (s.name t))) else callee.Local (local_id (s.value (s.name t)))) in
      (operand_in_range m f o ≡ true) × (is_written o ≡ true)
  callee_cases m f s t fair true h = (known_below t (s.function (s.name t)) _ (fair.functions (s.name t)) h, refl)
  callee_cases m f s t fair false h = (known_below t (s.value (s.name t)) _ (fair.values (s.name t)) h, refl)

  callee_right : (m : Module) (f : Function) (s : Sense) (t : Token) → Fair spelling m f s → callee_faults s t ≡ [] → (operand_in_range m f (callee_operand (callee_of s t)) ≡ true) × (is_written (callee_operand (callee_of s t)) ≡ true)
  callee_right m f s t fair e = callee_cases m f s t fair (is_global t) e

  args_right : (m : Module) (f : Function) (s : Sense) → Fair spelling m f s → (args : List ArgSyntax) → Each (ArgKept spelling) args → flat_map (arg_faults s) args ≡ [] → Each (λ a. TypeKept a.ty × Right m f a.ty (operand_of s a.value)) args
  args_right m f s fair args h e = Each-both (ArgKept spelling) (λ a. operand_faults s a.value ≡ []) _ (λ a k n. (k.0, k.1.right m f s fair n)) args h (none_each (arg_faults s) args e)

  call_right : (t : Ty) (name : Token) (args : List ArgSyntax) (gs : List Token) → type_fits t ≡ true → Each (ArgKept spelling) args → WhatKept spelling (syntax.Call t name args gs)
  call_right t name args gs h k = record {
    right = λ m f s fair e.
        let c = callee_right m f s name fair (none_left _ _ e) in
        let given = args_right m f s fair args k (none_left _ _ (none_right (callee_faults s name) _ e)) in
        record {
          fits = and_from _ _ h (list_all-each typed_fits _ (Each-map _ (arg_of s) args (Each-weaker _ _ (λ a r. typed_right m f _ _ r.0 r.1) args given)));
          flags = refl;
          integers = refl;
          solid = list_all-each _ _ (Each-map _ (arg_of s) args (Each-weaker _ _ (λ a r. not_false _ r.0.solid) args given));
          whole = and_from _ _ (type_whole t h) (list_all-each _ _ (Each-map _ (arg_of s) args (Each-weaker _ _ (λ a r. type_whole a.ty r.0.fits) args given)));
          in_range = and_from _ _ c.0 (list_all-each _ _ (Each-map _ (λ a. a.1) (map (arg_of s) args) (Each-map _ (arg_of s) args (Each-weaker _ _ (λ a r. r.1.in_range) args given))));
          written = and_from _ _ c.1 (list_all-each _ _ (Each-map _ (λ a. a.1) (map (arg_of s) args) (Each-map _ (arg_of s) args (Each-weaker _ _ (λ a r. r.1.written) args given))));
        };
    fits = h;
  }

  pub call_kept : Keeps (Told spelling) call (CallKept spelling)
  unfolding call
  call_kept = keeps_tree {R = (CallKept spelling)} _ _ (keeps_seq {Q = λ t. Unit {0}} _ _ (keeps_any _) (keeps_seq _ _ return_kept (keeps_seq {Q = λ t. Unit {0}} _ _ (keeps_any _) (keeps_seq {R = λ gs. Unit {0}} _ _ arguments_kept (keeps_any _)))))
      (λ p q. (call_right p.1.0.ty p.1.1.0 p.1.1.1.0 p.1.1.1.1 (whole_fits p.1.0 q.1.0) q.1.1.1.0, λ s. refl))

  pub valued_kept : Keeps (Told spelling) valued (WhatKept spelling)
  unfolding valued
  valued_kept = keeps_alt _ _ binary_kept (keeps_alt _ _ compare_kept (keeps_alt _ _ convert_kept (keeps_alt _ _ select_kept (keeps_tree _ _ call_kept (λ p q. q.0)))))
