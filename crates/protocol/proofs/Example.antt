-- The run of specs/Example.antt, computed. Assumes nothing.
use Rattle.std.proofs.Common.{◌≡◌, ℕ, suc, ◌+◌, [], ◌∷◌, refl, ap, inl, inr, arith, lit<, lit≤}
use Rattle.protocol.specs.Lists.{upd, upd2}
use mathlib.Core.Option.{none, some}
use Rattle.protocol.specs.Log.{Entry, entry, Log, entry_at, last_term, renew_index, renew, UpToDate, has_entries, merge, decisions}
use Rattle.protocol.specs.History.{no_history, count, Majority, owner}
use Rattle.protocol.specs.Cluster.{start, AllPermitted}
use Rattle.protocol.specs.Example.{first, second, middle, ExampleRun}

-- entries from a place on are those of the log
from_0 : (l : Log ℕ) (i : ℕ) → entry_at l i ≡ entry_at l (0 + i)
from_0 l i = ap (λ (x : ℕ). entry_at l x) (let e : i ≡ 0 + i = omega arith in e)

from_2 : (a b : Entry ℕ) (l : Log ℕ) (i : ℕ) → entry_at l i ≡ entry_at (a ∷ b ∷ l) (2 + i)
from_2 a b l i = ap (λ (x : ℕ). entry_at (a ∷ b ∷ l) x) (let e : suc (suc i) ≡ 2 + i = omega arith in e)

first_permitted : AllPermitted 3 start first
unfolding first start no_history upd upd2 owner count Majority UpToDate last_term renew renew_index merge has_entries
first_permitted = (
  lit< tt,
  (
    tt,
    (
      record { there = refl; ok = record { own = refl; fresh = refl }; term_stable = lit≤ tt },
      (
        record { there = refl; ok = record { stands = refl; open_yet = refl; up_to_date = inr (refl, lit≤ tt) }; term_stable = lit≤ tt },
        (
          lit< tt,
          (
            tt,
            (
              record { there = refl; ok = record { stands = refl; open_yet = refl; up_to_date = inr (refl, lit≤ tt) }; term_stable = lit≤ tt },
              (
                record { there = refl; own = refl; log_is = refl; ok = record { stands = refl; open_yet = refl; most = lit< tt } },
                (
                  record { there = refl; own = refl; log_is = refl; ok = record { leads = refl; new = lit≤ tt } },
                  (
                    tt,
                    (
                      record { there = refl; holds = record { led = refl; within = lit≤ tt; long = lit≤ tt; same = λ i b. refl }; term_stable = refl; log_stable = record { led = refl; within = lit≤ tt; long = lit≤ tt; same = λ i b. refl } },
                      (
                        record { there = refl; ok = record { part = record { led = refl; within = lit≤ tt; same = λ i b. from_0 (entry 3 none ∷ entry 3 (some 7) ∷ []) i }; no_gap = lit≤ tt; prev = refl } },
                        (
                          tt,
                          (
                            record { there = refl; holds = record { led = refl; within = lit≤ tt; long = lit≤ tt; same = λ i b. refl }; term_stable = refl; log_stable = record { led = refl; within = lit≤ tt; long = lit≤ tt; same = λ i b. refl } },
                            (tt, tt),
                          ),
                        ),
                      ),
                    ),
                  ),
                ),
              ),
            ),
          ),
        ),
      ),
    ),
  ),
)

second_permitted : AllPermitted 3 middle second
unfolding first second start no_history upd upd2 owner count Majority UpToDate last_term renew renew_index merge has_entries
second_permitted = (
  lit< tt,
  (
    tt,
    (
      record { there = refl; ok = record { own = refl; fresh = refl }; term_stable = lit≤ tt },
      (
        record { there = refl; ok = record { stands = refl; open_yet = refl; up_to_date = inr (refl, lit≤ tt) }; term_stable = lit≤ tt },
        (
          lit< tt,
          (
            tt,
            (
              record { there = refl; ok = record { stands = refl; open_yet = refl; up_to_date = inl (lit< tt) }; term_stable = lit≤ tt },
              (
                record { there = refl; own = refl; log_is = refl; ok = record { stands = refl; open_yet = refl; most = lit< tt } },
                (
                  tt,
                  (
                    record { there = refl; ok = record { part = record { led = refl; within = lit≤ tt; same = λ i b. from_0 (entry 3 none ∷ entry 3 (some 7) ∷ entry 4 none ∷ []) i }; no_gap = lit≤ tt; prev = refl } },
                    (
                      tt,
                      (
                        record { there = refl; holds = record { led = refl; within = lit≤ tt; long = lit≤ tt; same = λ i b. refl }; term_stable = refl; log_stable = record { led = refl; within = lit≤ tt; long = lit≤ tt; same = λ i b. refl } },
                        (
                          lit< tt,
                          (
                            tt,
                            (
                              record { there = refl; ok = record { own = refl; fresh = refl }; term_stable = lit≤ tt },
                              (
                                record { there = refl; ok = record { stands = refl; open_yet = refl; up_to_date = inr (refl, lit≤ tt) }; term_stable = lit≤ tt },
                                (
                                  lit< tt,
                                  (
                                    tt,
                                    (
                                      record { there = refl; ok = record { stands = refl; open_yet = refl; up_to_date = inr (refl, lit≤ tt) }; term_stable = lit≤ tt },
                                      (
                                        record { there = refl; own = refl; log_is = refl; ok = record { stands = refl; open_yet = refl; most = lit< tt } },
                                        (
                                          record { there = refl; own = refl; log_is = refl; ok = record { leads = refl; new = lit≤ tt } },
                                          (
                                            tt,
                                            (
                                              record { there = refl; holds = record { led = refl; within = lit≤ tt; long = lit≤ tt; same = λ i b. refl }; term_stable = refl; log_stable = record { led = refl; within = lit≤ tt; long = lit≤ tt; same = λ i b. refl } },
                                              (
                                                record { there = refl; ok = record { part = record { led = refl; within = lit≤ tt; same = λ i b. from_2 (entry 3 none) (entry 3 (some 7)) (entry 5 none ∷ entry 5 (some 8) ∷ []) i }; no_gap = lit≤ tt; prev = refl } },
                                                (
                                                  tt,
                                                  (
                                                    record { there = refl; holds = record { led = refl; within = lit≤ tt; long = lit≤ tt; same = λ i b. refl }; term_stable = refl; log_stable = record { led = refl; within = lit≤ tt; long = lit≤ tt; same = λ i b. refl } },
                                                    tt,
                                                  ),
                                                ),
                                              ),
                                            ),
                                          ),
                                        ),
                                      ),
                                    ),
                                  ),
                                ),
                              ),
                            ),
                          ),
                        ),
                      ),
                    ),
                  ),
                ),
              ),
            ),
          ),
        ),
      ),
    ),
  ),
)

pub example_run : ExampleRun
unfolding first second start no_history upd upd2 owner count Majority renew renew_index merge has_entries decisions
example_run =
    record {
      first_permitted = first_permitted;
      second_permitted = second_permitted;
      first_committed = record { led = refl; within = lit< tt; own_term = refl; most = lit< tt };
      first_decides = refl;
      second_committed = record { led = refl; within = lit< tt; own_term = refl; most = lit< tt };
      second_decides = refl;
      renewed = refl;
    }
