-- What a follower does with an append: entries es for the places behind index p, where the sender has term q, of which k are decided.
use Rattle.std.specs.Prelude.{◌≡◌, ℕ, ◌+◌, ◌-◌, max, Bool, true, false, ◌&&◌, List, [], ◌∷◌, length, drop, Some, None, Ok, Err, Option, Result, nat_le, slice_set}
use Rattle.std.proofs.Math.Option.{Option as Content, none, some}
use Rattle.raft_log.specs.declared.Index.{Index}
use Rattle.raft_log.specs.declared.accept.Refused.{Refused}
use Rattle.raft_log.specs.Layout.{at_most}
use Rattle.raft_log.specs.Entries.{last_index, commit_index, values, entry_pushed, value_appended, index}
use Rattle.raft_log.specs.Block.{Entry}
use Rattle.raft_log.specs.View.{log_of, decisions}
use Rattle.raft_log.specs.Conflict.{has_term, conflict, conflict_by_term}

-- memory in which only the first k entries are left
unfoldable pub truncated : List ℕ → ℕ → List ℕ
truncated m k = slice_set m 64 k

abbrev pub content_taken : List ℕ → ℕ → Content (List ℕ) → List ℕ
content_taken m t none = entry_pushed m (last_index m + 1) t (values m)
content_taken m t (some v) = value_appended m t v

-- memory with an entry behind the last
unfoldable pub entry_taken : List ℕ → Entry → List ℕ
entry_taken m e = content_taken m e.term e.content

-- memory with entries behind the last, one after the other
unfoldable pub entries_taken : List ℕ → List Entry → List ℕ
entries_taken m [] = m
entries_taken m (e ∷ es) = entries_taken (entry_taken m e) es

-- is there room for them?
unfoldable pub entries_fit : List ℕ → List Entry → Bool
entries_fit m es = nat_le (last_index m + length es) 8193 && nat_le (values m + length (decisions es)) 4096

-- the entries, by the index c at which the log first lacks one: nothing to do where it has them all, or else it is cut there
abbrev pub merges_at : List ℕ → ℕ → List Entry → Option Index → Bool
merges_at m p es None = true
merges_at m p es (Some c) = entries_fit (truncated m (c.0 - 1)) (drop (c.0 - 1 - p) es)

abbrev pub merged_at : List ℕ → ℕ → List Entry → Option Index → List ℕ
merged_at m p es None = m
merged_at m p es (Some c) = entries_taken (truncated m (c.0 - 1)) (drop (c.0 - 1 - p) es)

-- does what the log lacks of es behind p fit?
unfoldable pub merges : List ℕ → ℕ → List Entry → Bool
merges m p es = merges_at m p es (conflict (log_of m) p es)

-- memory that has es behind p
unfoldable pub merged : List ℕ → ℕ → List Entry → List ℕ
merged m p es = merged_at m p es (conflict (log_of m) p es)

-- memory in which k entries are known to be decided, or as many as before; not more than there are
unfoldable pub commit_noted : List ℕ → ℕ → List ℕ
commit_noted m k = slice_set m 65 (max (commit_index m) k)

-- is the append taken?
unfoldable pub accepts : List ℕ → ℕ → ℕ → List Entry → Bool
accepts m p q es = has_term (log_of m) p q && merges m p es

-- memory with the append taken: only what was compared counts as decided
unfoldable pub accepted : List ℕ → ℕ → ℕ → List Entry → List ℕ
accepted m p k es = commit_noted (merged m p es) (at_most k (p + length es))

-- an index below p at which the logs may agree: the last whose term is not above q
unfoldable pub hint : List Entry → ℕ → ℕ → ℕ
hint l p q = conflict_by_term l q (at_most (p - 1) (length l))

abbrev pub refused : ℕ → Refused
refused i = record { hint = index i }

-- what an append does, and answers
abbrev pub AppendAnswered : List ℕ → ℕ → ℕ → ℕ → List Entry → Result Index Refused → List ℕ → Type 0
AppendAnswered m p q k es (Ok i) m₁ = (accepts m p q es ≡ true) × (i ≡ index (p + length es)) × (m₁ ≡ accepted m p k es)
AppendAnswered m p q k es (Err x) m₁ = (accepts m p q es ≡ false) × (x ≡ refused (hint (log_of m) p q)) × (m₁ ≡ m)
