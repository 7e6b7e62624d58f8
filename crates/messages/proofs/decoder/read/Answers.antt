-- Each kind is read by its own function; the definition goes the same way.
use Rattle.std.proofs.Common.{◌≡◌, get_or, length, subst, rules}
use Rattle.messages.specs.Kind.{Decodes}
use Rattle.messages.specs.Letter.{letter_of, append_of, append_response_of, append_reject_of, request_vote_of, request_vote_response_of, term_notice_of}
use Rattle.messages.proofs.Decoding.{gives, kind_1, kind_2, kind_3, kind_4, kind_5, kind_6, empty_none, no_kind}
use Rattle.messages.proofs.decoder.read.Goals as goal

pub returns-in_err-first : goal.returns-in_err-first
returns-in_err-first c =
    let z : length c.args.bytes.now ≡ 0 = search rules in
    let e = empty_none c.args.bytes.now z in
    search rules

pub returns-in_err-ok : goal.returns-in_err-ok
returns-in_err-ok c =
    let bs = c.args.bytes.now in
    let b : c.in_ok-first.field-0.now ≡ get_or bs 0 0 = search rules in
    let e = no_kind bs c.try_from.result (subst (λ x. Decodes x c.try_from.result) b c.try_from.ensures) c.in_err-ok.ensures.variant in
    search rules

pub returns-in-Append : goal.returns-in-Append
returns-in-Append c =
    let bs = c.args.bytes.now in
    let b : get_or bs 0 0 ≡ c.in_ok-first.field-0.now = search rules in
    let k : get_or bs 0 0 ≡ 1 = search rules in
    gives (append_of bs) (letter_of bs) _ (kind_1 bs k) (search rules)

pub returns-in-AppendResponse : goal.returns-in-AppendResponse
returns-in-AppendResponse c =
    let bs = c.args.bytes.now in
    let b : get_or bs 0 0 ≡ c.in_ok-first.field-0.now = search rules in
    let k : get_or bs 0 0 ≡ 2 = search rules in
    gives (append_response_of bs) (letter_of bs) _ (kind_2 bs k) (search rules)

pub returns-in-AppendReject : goal.returns-in-AppendReject
returns-in-AppendReject c =
    let bs = c.args.bytes.now in
    let b : get_or bs 0 0 ≡ c.in_ok-first.field-0.now = search rules in
    let k : get_or bs 0 0 ≡ 3 = search rules in
    gives (append_reject_of bs) (letter_of bs) _ (kind_3 bs k) (search rules)

pub returns-in-RequestVote : goal.returns-in-RequestVote
returns-in-RequestVote c =
    let bs = c.args.bytes.now in
    let b : get_or bs 0 0 ≡ c.in_ok-first.field-0.now = search rules in
    let k : get_or bs 0 0 ≡ 4 = search rules in
    gives (request_vote_of bs) (letter_of bs) _ (kind_4 bs k) (search rules)

pub returns-in-RequestVoteResponse : goal.returns-in-RequestVoteResponse
returns-in-RequestVoteResponse c =
    let bs = c.args.bytes.now in
    let b : get_or bs 0 0 ≡ c.in_ok-first.field-0.now = search rules in
    let k : get_or bs 0 0 ≡ 5 = search rules in
    gives (request_vote_response_of bs) (letter_of bs) _ (kind_5 bs k) (search rules)

pub returns-in-TermNotice : goal.returns-in-TermNotice
returns-in-TermNotice c =
    let bs = c.args.bytes.now in
    let b : get_or bs 0 0 ≡ c.in_ok-first.field-0.now = search rules in
    let k : get_or bs 0 0 ≡ 6 = search rules in
    gives (term_notice_of bs) (letter_of bs) _ (kind_6 bs k) (search rules)
