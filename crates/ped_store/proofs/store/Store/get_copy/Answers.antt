use Rattle.std.proofs.Common.{◌≡◌, ℤ, ap, ◌∙◌, refl, Option, Some, None}
use Rattle.std.specs.Option.{option_flatten, ok_or}
use Rattle.ped_store.specs.Stores.{number_read}
use Rattle.ped_store.specs.Slots.{content_of}
use Rattle.ped_store.specs.Keeping.{Kept}
use Rattle.std.specs.Map.{lookup}
use Rattle.ped_store.specs.Keeping.{same_copied}
use Rattle.ped_store.proofs.SameCopies.{copy_found}
use Rattle.ped_store.proofs.store.Store.get_copy.Goals as goal

read : (o : Option ℤ) → ok_or o 1 ≡ number_read (content_of o)
read None = refl
read (Some n) = refl

pub returns : goal.returns
returns c =
    let f = c.flatten.ensures ∙ ap option_flatten (c.copied.ensures ∙ c.get.ensures.value ∙ copy_found c.args.copy.now c.self.inside.copies.entries) in
    c.ok_or.ensures.value ∙ ap (λ o. ok_or o 1) f ∙ read _
    ∙ ap (λ (k : Kept). number_read (content_of (option_flatten (lookup (same_copied c.args.copy.now) k.copies)))) c.self.view_is
