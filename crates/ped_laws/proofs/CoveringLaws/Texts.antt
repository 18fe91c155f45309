-- Texts, byte for byte.
use Rattle.std.proofs.Common.{◌≡◌, ℕ, List, true, refl}
use Rattle.std.specs.Cmp.Lexicographic.{bytes_decides}
use Rattle.ped_flow.specs.ped_base.specs.Lists.{is_same_text}

pub text_is : (x y : List ℕ) → is_same_text x y ≡ true → x ≡ y
text_is x y h = (bytes_decides x y).0 h

pub text_itself : (x : List ℕ) → is_same_text x x ≡ true
text_itself x = (bytes_decides x x).1 refl
