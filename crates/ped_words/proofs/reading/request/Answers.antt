use Rattle.std.proofs.Common.{◌≡◌, map, sym, ◌∙◌}
use Rattle.std.specs.Prelude.{string_bytes}
use Rattle.ped_words.specs.Requests.{show_request, session_request, generate_request, request_of}
use Rattle.ped_words.proofs.FirstWords.{no_words, by_mode, in_show, in_session, in_generate, in_none, answered, refused}
use Rattle.ped_words.proofs.reading.request.Goals as goal

pub returns-in_default-clause-bad : goal.returns-in_default-clause-bad
returns-in_default-clause-bad c = λ _. no_words c.args.words.now (sym c.in_default.ensures.value)

-- what the words ask for is what is asked for in the mode
shown : (c : goal.After-show) → request_of (map string_bytes c.args.words.now) ≡ show_request (map string_bytes c.args.words.now)
shown c =
    by_mode c.args.words.now c.in-Some.mode.now (sym c.in-Some.ensures.value)
    ∙ in_show (string_bytes c.in-Some.mode.now) (map string_bytes c.args.words.now) (sym c.is_mode.ensures ∙ c.if-is_mode.true)

pub returns-then-is_mode-clause-ok : goal.returns-then-is_mode-clause-ok
returns-then-is_mode-clause-ok c =
    answered (show_request (map string_bytes c.args.words.now)) (request_of (map string_bytes c.args.words.now)) c.show.result (shown c) c.show.ensures

pub returns-then-is_mode-clause-bad : goal.returns-then-is_mode-clause-bad
returns-then-is_mode-clause-bad c =
    refused (show_request (map string_bytes c.args.words.now)) (request_of (map string_bytes c.args.words.now)) c.show.result (shown c) c.show.ensures

run : (c : goal.After-session) → request_of (map string_bytes c.args.words.now) ≡ session_request (map string_bytes c.args.words.now)
run c =
    by_mode c.args.words.now c.in-Some.mode.now (sym c.in-Some.ensures.value)
    ∙ in_session (string_bytes c.in-Some.mode.now) (map string_bytes c.args.words.now) (sym c.is_mode.ensures ∙ c.if-is_mode.false) (sym c.is_mode-2.ensures ∙ c.if-is_mode-2.true)

pub returns-then-is_mode-2-clause-ok : goal.returns-then-is_mode-2-clause-ok
returns-then-is_mode-2-clause-ok c =
    answered (session_request (map string_bytes c.args.words.now)) (request_of (map string_bytes c.args.words.now)) c.session.result (run c) c.session.ensures

pub returns-then-is_mode-2-clause-bad : goal.returns-then-is_mode-2-clause-bad
returns-then-is_mode-2-clause-bad c =
    refused (session_request (map string_bytes c.args.words.now)) (request_of (map string_bytes c.args.words.now)) c.session.result (run c) c.session.ensures

generated : (c : goal.After-generate) → request_of (map string_bytes c.args.words.now) ≡ generate_request (map string_bytes c.args.words.now)
generated c =
    by_mode c.args.words.now c.in-Some.mode.now (sym c.in-Some.ensures.value)
    ∙ in_generate (string_bytes c.in-Some.mode.now) (map string_bytes c.args.words.now) (sym c.is_mode.ensures ∙ c.if-is_mode.false) (sym c.is_mode-2.ensures ∙ c.if-is_mode-2.false) (sym c.is_mode-3.ensures ∙ c.if-is_mode-3.true)

pub returns-then-is_mode-3-clause-ok : goal.returns-then-is_mode-3-clause-ok
returns-then-is_mode-3-clause-ok c =
    answered (generate_request (map string_bytes c.args.words.now)) (request_of (map string_bytes c.args.words.now)) c.generate.result (generated c) c.generate.ensures.answer

pub returns-then-is_mode-3-clause-bad : goal.returns-then-is_mode-3-clause-bad
returns-then-is_mode-3-clause-bad c =
    refused (generate_request (map string_bytes c.args.words.now)) (request_of (map string_bytes c.args.words.now)) c.generate.result (generated c) c.generate.ensures.answer

pub returns-clause-bad : goal.returns-clause-bad
returns-clause-bad c =
    λ _. by_mode c.args.words.now c.in-Some.mode.now (sym c.in-Some.ensures.value)
    ∙ in_none (string_bytes c.in-Some.mode.now) (map string_bytes c.args.words.now) (sym c.is_mode.ensures ∙ c.if-is_mode.false) (sym c.is_mode-2.ensures ∙ c.if-is_mode-2.false) (sym c.is_mode-3.ensures ∙ c.if-is_mode-3.false)
