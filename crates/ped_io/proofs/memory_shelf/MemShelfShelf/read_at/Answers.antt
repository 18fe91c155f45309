use Rattle.std.proofs.Common.{rules, ◌≡◌, ◌<◌, ℕ, Some, refl, get_or, length, ap, sym, ◌∙◌, arith}
use Rattle.std.proofs.lemmas.List.{with_items_is}
use Rattle.ped_io.proofs.Parts.{GivesPart-Copies, given_told, content-held}
use Rattle.ped_io.proofs.Places.{own_place}
use Rattle.ped_io.specs.Outside.{held_content}
use Rattle.ped_io.specs.Shelves.{FailsNext, told_of, place_of}
use Rattle.ped_io.specs.contracts.memory_shelf.MemShelf.{the_view}
use Rattle.ped_io.proofs.memory_shelf.MemShelfShelf.read_at.Goals as goal

pub returns-clause-given : goal.returns-clause-given
returns-clause-given c files told =
    let contents = told_of c.args.self.now in
    let bytes = c.in-Some.content.now in
    let held : held_content contents c.args.name.now ≡ Some bytes = search rules in
    given_told contents files c.args.name.now bytes _ _ _ _ (sym (ap (λ s. Some (told_of s)) c.self.view_is) ∙ told)
    (content-held contents c.args.name.now bytes held)
    (GivesPart-Copies _ _ _ _ _ _ (λ none. omega (arith, c.self.invariant.0)) c.copy_part.ensures)

pub returns-in_default-clause-fails : goal.returns-in_default-clause-fails
returns-in_default-clause-fails c =
    let unread = c.in_default.ensures.fails.0 refl in
    let fails : FailsNext c.args.self.now c.args.name.now =
    rw (← c.self.view_is, ← c.one_more-self-inside.ensures.value) unread in
    (λ failed. fails, λ now. search rules)

pub returns-in_default-clause-others : goal.returns-in_default-clause-others
returns-in_default-clause-others c files told m differ held =
    let shelf = c.self.inside in
    let same_length = c.count_fault.auto.counts ∙ c.deref_mut.ensures.len in
    let kept = with_items_is shelf.counts c.count_fault.new.counts same_length in
    let told_here = ap (λ s. Some (told_of s)) c.self.view_is ∙ told in
    let own = own_place (told_of (the_view shelf)) files m c.args.name.now told_here differ held in
    let place : ℕ = place_of shelf.files m in
    let same_counts = c.deref_mut.ensures.value in
    let inside : place < length c.deref_mut.result.now =
    omega (arith, own.0, ap length same_counts, c.self.invariant.1) in
    rw (kept, ← c.self.view_is)
    (c.count_fault.ensures.kept place inside (λ same. own.1 (same ∙ c.place_of-place.ensures))
    ∙ ap (λ counts. get_or counts place shelf.other_faults) same_counts)
