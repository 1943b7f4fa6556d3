-- The bytes that texts are made of, by their names in ASCII.
use Rattle.std.specs.Prelude.{ℕ}

abbrev pub tab : ℕ
tab = 9

abbrev pub line_feed : ℕ
line_feed = 10

abbrev pub carriage_return : ℕ
carriage_return = 13

abbrev pub blank : ℕ
blank = 32

abbrev pub exclamation : ℕ
exclamation = 33

abbrev pub quote : ℕ
quote = 34

abbrev pub hash : ℕ
hash = 35

abbrev pub dollar : ℕ
dollar = 36

abbrev pub percent : ℕ
percent = 37

abbrev pub open_bracket : ℕ
open_bracket = 40

abbrev pub close_bracket : ℕ
close_bracket = 41

abbrev pub star : ℕ
star = 42

abbrev pub plus : ℕ
plus = 43

abbrev pub comma : ℕ
comma = 44

abbrev pub minus : ℕ
minus = 45

abbrev pub point : ℕ
point = 46

abbrev pub digit_zero : ℕ
digit_zero = 48

abbrev pub digit_one : ℕ
digit_one = 49

abbrev pub colon : ℕ
colon = 58

abbrev pub semicolon : ℕ
semicolon = 59

abbrev pub less : ℕ
less = 60

abbrev pub equals : ℕ
equals = 61

abbrev pub greater : ℕ
greater = 62

abbrev pub at_sign : ℕ
at_sign = 64

abbrev pub capital_e : ℕ
capital_e = 69

abbrev pub open_square : ℕ
open_square = 91

abbrev pub backslash : ℕ
backslash = 92

abbrev pub close_square : ℕ
close_square = 93

abbrev pub underscore : ℕ
underscore = 95

abbrev pub small_c : ℕ
small_c = 99

abbrev pub small_e : ℕ
small_e = 101

abbrev pub small_x : ℕ
small_x = 120

abbrev pub open_brace : ℕ
open_brace = 123

abbrev pub bar : ℕ
bar = 124

abbrev pub close_brace : ℕ
close_brace = 125
