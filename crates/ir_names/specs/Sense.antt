-- What the tokens of a text stand for at a place.
use Rattle.std.specs.Prelude.{ℕ, Bool, false, nat_lt, unwrap_or, Option, None, Some, List, slice_get}
use Rattle.std.specs.List.{position_from}
use Rattle.std.specs.Option.{option_and_then}
use Rattle.ir_tokens.specs.declared.token.Token.{Token}
use Rattle.ir_grammar.specs.declared.tree.ItemSyntax.{ItemSyntax}
use Rattle.ir_values.specs.declared.ids.BlockId.{BlockId}
use Rattle.ir_values.specs.declared.ids.FuncId.{FuncId}
use Rattle.ir_values.specs.declared.ids.GlobalId.{GlobalId}
use Rattle.ir_values.specs.declared.ids.LocalId.{LocalId}
use Rattle.ir_values.specs.declared.name.Name.{Name}

pub record Sense : Type 0 where
  -- the name that a token spells, the bytes that a string stands for, and the bytes that a token is written with
  pub name : Token → Name
  pub string : Token → List ℕ
  pub spelling : Token → List ℕ
  -- the items of the whole text
  pub items : List ItemSyntax
  -- of a name the number of its first definition, and how many bytes the constant of a number has
  pub constant : Name → Option ℕ
  pub size : ℕ → Option ℕ
  pub function : Name → Option ℕ
  pub value : Name → Option ℕ
  pub label : Name → Option ℕ
  -- the place, among the items, of the first group or node that has a token's number
  pub group : Token → Option ℕ
  pub node : Token → Option ℕ
  -- the place, among the nodes that are listed as flags, of the first that has a token's number
  pub listed : Token → Option ℕ

-- the number of a name is that of its first definition, where `names` are those of all definitions of one sort in text order
abbrev pub number_of : {K : Type 0} → (K → K → Bool) → List K → K → Option ℕ
number_of eq names name = position_from (eq name) 0 names

-- a definition is one of the first n
abbrev pub is_before : Option ℕ → ℕ → Bool
is_before None n = false
is_before (Some k) n = nat_lt k n

abbrev pub item_at : Sense → Option ℕ → Option ItemSyntax
item_at s place = option_and_then (slice_get s.items) place

-- Parts of a module by their numbers. A name without one is a fault.

abbrev pub global_id : Option ℕ → GlobalId
global_id number = record { 0 = unwrap_or number 0 }

abbrev pub func_id : Option ℕ → FuncId
func_id number = record { 0 = unwrap_or number 0 }

abbrev pub local_id : Option ℕ → LocalId
local_id number = record { 0 = unwrap_or number 0 }

abbrev pub block_id : Option ℕ → BlockId
block_id number = record { 0 = unwrap_or number 0 }
