-- What contracts see of the table of bits.
use Rattle.std.specs.Prelude.{Bool, false, unwrap_or}
use Rattle.std.specs.declared.hash.FoldHasher.{FoldHasher}
use Rattle.std.specs.declared.hash.BuildHasherDefault.{BuildHasherDefault}
use Rattle.backend_api.specs.declared.operation.QubitRef.{QubitRef}
use Rattle.backend_api.specs.Operations.{same_qubit}
use Rattle.indexmap.specs.IndexMap.{IndexMap, get}

-- the bits that were written
abbrev pub BitTable : Type 0
BitTable = IndexMap QubitRef Bool (BuildHasherDefault FoldHasher)

-- the bit of a qubit: 0 where none was written
abbrev pub bit_in : BitTable → QubitRef → Bool
bit_in t q = unwrap_or (get same_qubit t q) false
