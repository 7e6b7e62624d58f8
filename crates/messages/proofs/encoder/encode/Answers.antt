-- Each arm: the letter that the message stands for, and its bytes at the front.
use Rattle.std.proofs.Common.{◌≡◌, ℕ, ◌+◌, List, [], ◌∷◌, ◌++◌, length, refl, ap, ◌∙◌, arith, rules}
use Rattle.raft_log.specs.Bytes.{eight, laid}
use Rattle.raft_log.specs.Block.{log_entries}
use Rattle.raft_log.proofs.BlockWrites.{length_log_entries}
use Rattle.messages.specs.Letter.{Letter, append, append_response, append_reject, request_vote, request_vote_response, term_notice, bit, letter_bytes}
use Rattle.messages.specs.Message.{letter_from}
use Rattle.messages.proofs.Encoding.{put_byte, length_append, append_put, told}
use Rattle.messages.proofs.encoder.encode.Goals as goal

pub returns-in-Append : goal.returns-in-Append
returns-in-Append c =
    let arm = c.in-Append in
    let m : List ℕ = c.args.memory.now in
    let first : ℕ = arm.prev_index.0 + 1 in
    let es = log_entries m first arm.entries in
    let l : Letter = append arm.term.0 arm.prev_index.0 arm.prev_term.0 arm.commit.0 es in
    let n : c.write_block.result ≡ length (letter_bytes l) =
    omega (arith, length_append arm.term.0 arm.prev_index.0 arm.prev_term.0 arm.commit.0 es, c.write_block.ensures.end) in
    let put = append_put c.args.out.now c.put_numbers.new.out c.write_block.new.out
    arm.term.0 arm.prev_index.0 arm.prev_term.0 arm.commit.0 arm.entries es
    (length_log_entries m first arm.entries) (omega arith) c.put_numbers.ensures.put c.write_block.ensures.put in
    let both = told l (letter_from m c.args.message) c.args.out.now c.write_block.new.out c.write_block.result (ap (letter_from m) arm.is) n put in
    record { long = both.0; short = omega arith; put = both.1 }

pub returns-in-AppendResponse : goal.returns-in-AppendResponse
unfolding letter_bytes
returns-in-AppendResponse c =
    let arm = c.in-AppendResponse in
    let did = c.put_numbers-in-AppendResponse in
    let m : List ℕ = c.args.memory.now in
    let l : Letter = append_response arm.term.0 arm.index.0 in
    let both = told l (letter_from m c.args.message) c.args.out.now did.new.out did.result (ap (letter_from m) arm.is) did.ensures.end
    did.ensures.put in
    record { long = both.0; short = omega arith; put = both.1 }

pub returns-in-AppendReject : goal.returns-in-AppendReject
unfolding letter_bytes
returns-in-AppendReject c =
    let arm = c.in-AppendReject in
    let did = c.put_numbers-in-AppendReject in
    let m : List ℕ = c.args.memory.now in
    let l : Letter = append_reject arm.term.0 arm.prev_index.0 arm.hint.0 in
    let both = told l (letter_from m c.args.message) c.args.out.now did.new.out did.result (ap (letter_from m) arm.is) did.ensures.end
    did.ensures.put in
    record { long = both.0; short = omega arith; put = both.1 }

pub returns-in-RequestVote : goal.returns-in-RequestVote
unfolding letter_bytes
returns-in-RequestVote c =
    let arm = c.in-RequestVote in
    let did = c.put_numbers-in-RequestVote in
    let m : List ℕ = c.args.memory.now in
    let l : Letter = request_vote arm.term.0 arm.last_index.0 arm.last_term.0 in
    let both = told l (letter_from m c.args.message) c.args.out.now did.new.out did.result (ap (letter_from m) arm.is) did.ensures.end
    did.ensures.put in
    record { long = both.0; short = omega arith; put = both.1 }

pub returns-in-RequestVoteResponse : goal.returns-in-RequestVoteResponse
unfolding letter_bytes
returns-in-RequestVoteResponse c =
    let arm = c.in-RequestVoteResponse in
    let did = c.put_numbers-in-RequestVoteResponse in
    let m : List ℕ = c.args.memory.now in
    let l : Letter = request_vote_response arm.term.0 arm.granted in
    let b : c.from.result ≡ bit arm.granted = search rules in
    let put = put_byte c.args.out.now did.new.out 0 9 (5 ∷ eight arm.term.0) c.from.result refl (omega arith) did.ensures.put in
    let both = told l (letter_from m c.args.message) c.args.out.now _ 10 (ap (letter_from m) arm.is) refl
    (put ∙ ap (λ x. laid c.args.out.now 0 (5 ∷ (eight arm.term.0 ++ (x ∷ [])))) b) in
    record { long = both.0; short = omega arith; put = both.1 }

pub returns-in-TermNotice : goal.returns-in-TermNotice
unfolding letter_bytes
returns-in-TermNotice c =
    let arm = c.in-TermNotice in
    let did = c.put_numbers-in-TermNotice in
    let m : List ℕ = c.args.memory.now in
    let l : Letter = term_notice arm.term.0 in
    let both = told l (letter_from m c.args.message) c.args.out.now did.new.out did.result (ap (letter_from m) arm.is) did.ensures.end
    did.ensures.put in
    record { long = both.0; short = omega arith; put = both.1 }
