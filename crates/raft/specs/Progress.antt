-- What a leader makes of the answers to its appends.
use Rattle.std.specs.Prelude.{ℕ, ◌+◌, Bool, cond, ◌&&◌, List, ◌==◌, nat_le, nat_lt, slice_set}
use Rattle.raft_log.specs.Entries.{last_index, commit_index}
use Rattle.raft.specs.declared.header.Role.{Role}
use Rattle.raft.specs.declared.header.Machine.{Machine}
use Rattle.raft.specs.declared.say.Due.TheVariants.{Append}
use Rattle.raft.specs.Header.{at_least}
use Rattle.raft.specs.Rows.{matched_at, next_at}
use Rattle.raft.specs.Say.{said_to_others, said_to}
use Rattle.raft.specs.Commit.{maybe_committed}

-- the index after k, as far as there is one in a word
abbrev pub after : ℕ → ℕ
after k = cond (nat_lt k 18446744073709551615) (k + 1) k

-- what f has acknowledged, and what it is sent next, rise and never fall
abbrev pub matched_then : List ℕ → ℕ → ℕ → ℕ
matched_then m f i = at_least i (matched_at m f)

abbrev pub next_then : List ℕ → ℕ → ℕ → ℕ
next_then m f i = at_least (after (matched_then m f i)) (next_at m f)

unfoldable pub matched_raised : List ℕ → ℕ → ℕ → List ℕ
matched_raised m f i = slice_set (slice_set m (15 + f) (matched_then m f i)) (22 + f) (next_then m f i)

-- if commit rose, all hear of it; else f gets what it lacks
unfoldable pub spread : List ℕ → Machine Role → ℕ → ℕ → List ℕ
spread m x f commit =
    cond (nat_lt commit (commit_index m)) (said_to_others m x Append) (cond (nat_le (next_at m f) (last_index m)) (said_to m f Append) m)

unfoldable pub ack_taken : List ℕ → Machine Role → ℕ → ℕ → List ℕ
ack_taken m x f i =
    cond (nat_le i (last_index m)) (spread (maybe_committed (matched_raised m f i) x.size.0 x.term.0) x f (commit_index m)) m

-- what f is sent next falls to the hint, never to its match or below
abbrev pub next_below : List ℕ → ℕ → ℕ → ℕ → ℕ
next_below m f p h = at_least (cond (nat_lt h p) (h + 1) p) (matched_at m f + 1)

-- a rejection that is not stale
abbrev pub rejects_next : List ℕ → ℕ → ℕ → Bool
rejects_next m f p = next_at m f == after p && nat_lt (matched_at m f) p

unfoldable pub reject_taken : List ℕ → ℕ → ℕ → ℕ → List ℕ
reject_taken m f p h = cond (rejects_next m f p) (said_to (slice_set m (22 + f) (next_below m f p h)) f Append) m
