-- Letters, digits and names (ANSI X3.9-1978, section 3.1).
use Rattle.std.specs.Prelude.{ℕ, List, [], ◌∷◌, Bool, false, nat_le, ◌&&◌, ◌||◌, Option, Some, None, length, if◌then◌else◌}
use Rattle.std.specs.List.{list_all}

-- A to Z
abbrev pub is_letter : ℕ → Bool
is_letter c = nat_le 65 c && nat_le c 90

-- 0 to 9
abbrev pub is_digit : ℕ → Bool
is_digit c = nat_le 48 c && nat_le c 57

-- a letter or a digit
abbrev pub is_alphanumeric : ℕ → Bool
is_alphanumeric c = is_letter c || is_digit c

-- begins with a letter (ANSI X3.9-1978, section 2.2)
abbrev pub begins_with_letter : List ℕ → Bool
begins_with_letter [] = false
begins_with_letter (c ∷ cs) = is_letter c

-- a letter, and then letters and digits (ANSI X3.9-1978, section 2.2)
abbrev pub is_name : List ℕ → Bool
is_name bytes = begins_with_letter bytes && list_all is_alphanumeric bytes

-- the name of these bytes, where they are one of at most 31 characters (ANSI X3.9-1978, section 2.2; this project)
abbrev pub name_of : List ℕ → Option (List ℕ)
name_of bytes = if is_name bytes && nat_le (length bytes) 31 then Some bytes else None
