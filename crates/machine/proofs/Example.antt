-- The run of specs/Example.antt, computed: of machines whose hint for an empty log is 0. Assumes nothing.
use Rattle.std.proofs.Common.{◌≡◌, ℕ, [], refl, ap, inl, inr}
use Rattle.protocol.specs.Lists.{upd}
use Rattle.protocol.specs.Log.{term_before, last_term, renew_index, renew, has_entries, merge, decisions}
use Rattle.protocol.specs.History.{count, owner as owner_of}
use Rattle.machine.specs.Machine.{Hint, reject, decided}
use Rattle.machine.specs.Hints.{shorter, index_by_term, by_term}
use Rattle.machine.specs.Step.{is_majority, is_up_to_date, to_others, majority_index, maybe_commit, become_leader, poll, enter, on_tick, handle_append, handle_ack, handle_reject, on_letter, append_proposal, on_proposal}
use Rattle.machine.specs.World.{mail, post, longer, AllAllowed, initial}
use Rattle.machine.specs.Example.{three, first, second, third, after_first, after_second, ExampleRun}

module _ (h : Hint) (e : h 0 (term_before {A = ℕ} []) 2 1 ≡ 0) where
  first_allowed : AllAllowed (three h) initial first
  unfolding three first initial upd count owner_of last_term renew_index renew has_entries merge decisions is_majority is_up_to_date to_others majority_index maybe_commit become_leader poll enter on_tick handle_append handle_ack handle_reject on_letter append_proposal on_proposal post decided longer
  first_allowed = (
    tt,
    (
      tt,
      (
        tt,
        (
          (refl, tt, record { term = refl; log = refl }),
          (
            (refl, tt, record { term = refl; log = refl }),
            (
              (refl, tt, tt),
              (
                (refl, inl refl, tt),
                (
                  (refl, inr (inr (inl refl)), record { term = refl; log = refl }),
                  (
                    (refl, inr (inr (inr (inr (inl refl)))), tt),
                    (
                      (refl, refl, tt),
                      (
                        (refl, inr (inr (inr (inr (inr (inr (inr (inl refl))))))), tt),
                        (
                          (refl, inr (inr (inr (inr (inr (inr (inr (inr (inr (inl refl))))))))), record { term = refl; log = refl }),
                          (
                            (refl, tt, tt),
                            tt,
                          ),
                        ),
                      ),
                    ),
                  ),
                ),
              ),
            ),
          ),
        ),
      ),
    ),
  )

  second_allowed : AllAllowed (three h) (after_first h) second
  unfolding three first second initial upd count owner_of last_term renew_index renew has_entries merge decisions is_majority is_up_to_date to_others majority_index maybe_commit become_leader poll enter on_tick handle_append handle_ack handle_reject on_letter append_proposal on_proposal post decided longer
  second_allowed = (
    (refl, tt, record { term = refl; log = refl }),
    (
      (refl, tt, record { term = refl; log = refl }),
      (
        (refl, tt, tt),
        (
          (refl, tt, record { term = refl; log = refl }),
          (
            (refl, tt, record { term = refl; log = refl }),
            (
              (refl, tt, tt),
              (
                (refl, inr (inr (inr (inr (inr (inr (inr (inr (inr (inr (inr (inr (inr (inr (inr (inr (inr (inl refl))))))))))))))))), tt),
                (
                  (refl, inr (inr (inr (inr (inr (inr (inr (inr (inr (inr (inr (inr (inr (inr (inr (inr (inr (inr (inl refl)))))))))))))))))), tt),
                  (
                    (refl, inr (inr (inr (inr (inr (inr (inr (inr (inr (inr (inr (inr (inr (inr (inr (inr (inr (inr (inr (inr (inl refl)))))))))))))))))))), record { term = refl; log = refl }),
                    (
                      (refl, inr (inr (inr (inr (inr (inr (inr (inr (inr (inr (inr (inr (inr (inr (inr (inr (inr (inr (inr (inr (inr (inl (ap (λ (i : ℕ). mail 2 0 (reject 3 2 i)) e)))))))))))))))))))))), record { term = refl; log = refl }),
                      (
                        (refl, inr (inr (inr (inr (inr (inr (inr (inr (inr (inr (inr (inr (inr (inr (inr (inr (inr (inr (inr (inr (inr (inr (inl refl)))))))))))))))))))))), tt),
                        (
                          (refl, tt, tt),
                          (
                            tt,
                            (
                              tt,
                              tt,
                            ),
                          ),
                        ),
                      ),
                    ),
                  ),
                ),
              ),
            ),
          ),
        ),
      ),
    ),
  )

  third_allowed : AllAllowed (three h) (after_second h) third
  unfolding three first second third initial upd count owner_of last_term renew_index renew has_entries merge decisions is_majority is_up_to_date to_others majority_index maybe_commit become_leader poll enter on_tick handle_append handle_ack handle_reject on_letter append_proposal on_proposal post decided longer
  third_allowed = (
    (refl, tt, record { term = refl; log = refl }),
    (
      (refl, tt, record { term = refl; log = refl }),
      (
        (refl, tt, tt),
        (
          (refl, inr (inr (inr (inr (inr (inr (inr (inr (inr (inr (inr (inr (inr (inr (inr (inr (inr (inr (inr (inr (inr (inr (inr (inr (inr (inr (inr (inl refl))))))))))))))))))))))))))), tt),
          (
            (refl, inr (inr (inr (inr (inr (inr (inr (inr (inr (inr (inr (inr (inr (inr (inr (inr (inr (inr (inr (inr (inr (inr (inr (inr (inr (inr (inr (inr (inr (inl refl))))))))))))))))))))))))))))), record { term = refl; log = refl }),
            (
              (refl, inr (inr (inr (inr (inr (inr (inr (inr (inr (inr (inr (inr (inr (inr (inr (inr (inr (inr (inr (inr (inr (inr (inr (inr (inr (inr (inr (inr (inr (inr (inl refl)))))))))))))))))))))))))))))), record { term = refl; log = refl }),
              (
                (refl, tt, record { term = refl; log = refl }),
                (
                  (refl, tt, record { term = refl; log = refl }),
                  (
                    (refl, tt, tt),
                    (
                      (refl, inr (inr (inr (inr (inr (inr (inr (inr (inr (inr (inr (inr (inr (inr (inr (inr (inr (inr (inr (inr (inr (inr (inr (inr (inr (inr (inr (inr (inr (inr (inr (inr (inr (inr (inl refl)))))))))))))))))))))))))))))))))), tt),
                      (
                        (refl, inr (inr (inr (inr (inr (inr (inr (inr (inr (inr (inr (inr (inr (inr (inr (inr (inr (inr (inr (inr (inr (inr (inr (inr (inr (inr (inr (inr (inr (inr (inr (inr (inr (inr (inr (inl refl))))))))))))))))))))))))))))))))))), tt),
                        (
                          (refl, refl, tt),
                          (
                            (refl, inr (inr (inr (inr (inr (inr (inr (inr (inr (inr (inr (inr (inr (inr (inr (inr (inr (inr (inr (inr (inr (inr (inr (inr (inr (inr (inr (inr (inr (inr (inr (inr (inr (inr (inr (inr (inr (inr (inr (inl refl))))))))))))))))))))))))))))))))))))))), tt),
                            (
                              (refl, inr (inr (inr (inr (inr (inr (inr (inr (inr (inr (inr (inr (inr (inr (inr (inr (inr (inr (inr (inr (inr (inr (inr (inr (inr (inr (inr (inr (inr (inr (inr (inr (inr (inr (inr (inr (inr (inr (inr (inr (inl refl)))))))))))))))))))))))))))))))))))))))), record { term = refl; log = refl }),
                              (
                                (refl, inr (inr (inr (inr (inr (inr (inr (inr (inr (inr (inr (inr (inr (inr (inr (inr (inr (inr (inr (inr (inr (inr (inr (inr (inr (inr (inr (inr (inr (inr (inr (inr (inr (inr (inr (inr (inr (inr (inr (inr (inr (inr (inl refl)))))))))))))))))))))))))))))))))))))))))), record { term = refl; log = refl }),
                                tt,
                              ),
                            ),
                          ),
                        ),
                      ),
                    ),
                  ),
                ),
              ),
            ),
          ),
        ),
      ),
    ),
  )

  example_run : ExampleRun h
  unfolding three first second third initial upd count owner_of last_term renew_index renew has_entries merge decisions is_majority is_up_to_date to_others majority_index maybe_commit become_leader poll enter on_tick handle_append handle_ack handle_reject on_letter append_proposal on_proposal post decided longer
  example_run =
      record {
        first_allowed = first_allowed;
        second_allowed = second_allowed;
        third_allowed = third_allowed;
        first_decides = refl;
        first_falls = refl;
        forgets = refl;
        second_falls = refl;
        second_leaves = refl;
        renews = refl;
        third_decides = refl;
        all_hear = refl;
        one_order = refl;
      }

pub example_shorter : ExampleRun shorter
example_shorter = example_run shorter refl

pub example_by_term : ExampleRun by_term
unfolding index_by_term
example_by_term = example_run by_term refl
