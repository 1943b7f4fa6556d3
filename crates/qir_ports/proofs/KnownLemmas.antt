-- What several calls do one after another.
use Rattle.std.proofs.Common.{ℕ, ◌+◌, List, ◌++◌, take, drop, Option, Some, None, sym, ◌∙◌, ap, append_assoc}
use Rattle.std.specs.Option.{option_map}
use Rattle.std.proofs.Math.Seq.{take-add}
use Rattle.qir_ports.specs.Known.{Gives, Takes}

-- bytes that are given after others
pub Gives-more : (a b c : Option (List ℕ)) (x y : List ℕ) → Gives a x b → Gives b y c → Gives a (x ++ y) c
Gives-more a b None x y p q = p ∙ ap (option_map (λ r. x ++ r)) q
Gives-more a b (Some r) x y p q = p ∙ ap (option_map (λ r. x ++ r)) q ∙ ap Some (sym (append_assoc x y r))

-- bytes that are taken after others
pub Takes-more : (a b c : Option (List ℕ)) (x y : List ℕ) → Takes a x b → Takes b y c → Takes a (x ++ y) c
Takes-more None b c x y p q = q ∙ ap (option_map (λ r. r ++ y)) p
Takes-more (Some r) b c x y p q = q ∙ ap (option_map (λ r. r ++ y)) p ∙ ap Some (append_assoc r x y)

-- the first n of some bytes, and then m of the others
pub Takes-part : (a b c : Option (List ℕ)) (bytes : List ℕ) (n m : ℕ) → Takes a (take n bytes) b → Takes b (take m (drop n bytes)) c → Takes a (take (n + m) bytes) c
Takes-part a b c bytes n m p q = rw (take-add n m bytes) (Takes-more a b c _ _ p q)
