-- What is read of a text is what it is, as code answers it.
use Rattle.std.proofs.Common.{◌≡◌, ℕ, List, sym, subst}
use Rattle.ped_tree.specs.Grammar.Items.{Reading}
use Rattle.ped_statements.specs.Saturated.{IsReadAs}
use Rattle.ped_statements.specs.ProfileReading.{reading_in}
use Rattle.ped_statements.proofs.OneReading.{reading_is}

pub is_read : (v : ℕ → ℕ) (text : List ℕ) (r : Reading) → r ≡ reading_in v text → IsReadAs v text r
is_read v text r h = subst (IsReadAs v text) (sym h) (reading_is v text)
