-- What the lengths and a replay come to is what the exported replay leaves. Assumes nothing.
use Rattle.std.specs.Prelude.{◌≡◌}
use Rattle.kit.specs.Names.{refl, sym, ap, ◌∙◌, Bool, true, false, cond, not, List, ℕ, length, eqb, eq-eqb, ne_eqb}
use Rattle.rules.specs.Rules.{Rows, Log, table}
use Rattle.layout.specs.State.{NUMBERS, SERIALS, Sized, state_of, state_numbers, state_serials}
use Rattle.layout.proofs.LayoutLaws.{numbers_state}
use Rattle.journal.specs.Entry.{Bytes}
use Rattle.journal.specs.Replay.{Replayed, replay_bytes}
use Rattle.admit.specs.Admit.{CARRIED-OUT, NO-STATE, NO-ANSWERS}
use Rattle.results.specs.Results.{RESULT, result_numbers, result_admission}
use Rattle.replaying.specs.Ended.{replayed_by}
use Rattle.runs.specs.Served.{Host, host, table_of}
use Rattle.host.specs.Host.{hosted, refuse_host, stateless}
use Rattle.replayer.specs.Replaying.{replay_served, serve_replay}

-- ---- the lengths of what is lent decide

module _ (h : Host) (bs : Bytes) (n : ℕ) where
  pub no_numbers : n ≡ NO-STATE → (length h.numbers ≡ NUMBERS → ⊥) → hosted n h ≡ serve_replay h bs
  unfolding serve_replay
  no_numbers q d = rw (q, ne_eqb (length h.numbers) NUMBERS d)

  module _ (fit : length h.numbers ≡ NUMBERS) where
    pub no_serials : n ≡ NO-STATE → (length h.serials ≡ SERIALS → ⊥) → hosted n h ≡ serve_replay h bs
    unfolding serve_replay
    no_serials q d = rw (q, eq-eqb (length h.numbers) NUMBERS fit, ne_eqb (length h.serials) SERIALS d)

    module _ (there : length h.serials ≡ SERIALS) where
      pub no_result : n ≡ NO-ANSWERS → (length h.answers ≡ RESULT → ⊥) → hosted n h ≡ serve_replay h bs
      unfolding serve_replay
      no_result q d =
          rw (q, eq-eqb (length h.numbers) NUMBERS fit, eq-eqb (length h.serials) SERIALS there, ne_eqb (length h.answers) RESULT d)

      pub replay_out : (h' : Host) → n ≡ CARRIED-OUT → length h.answers ≡ RESULT → h' ≡ replay_served h bs → hosted n h' ≡ serve_replay h bs
      unfolding serve_replay
      replay_out h' q e w =
          rw (q, w, eq-eqb (length h.numbers) NUMBERS fit, eq-eqb (length h.serials) SERIALS there, eq-eqb (length h.answers) RESULT e)

-- ---- the code that is returned

told : (stateless full : Bool) (h after : Host)
    → (refuse_host stateless NO-STATE h (refuse_host (not full) NO-ANSWERS h (hosted CARRIED-OUT after))).code
    ≡ cond stateless NO-STATE (cond full CARRIED-OUT NO-ANSWERS)
told true full h after = refl
told false true h after = refl
told false false h after = refl

-- It is what the lengths of the state and of the result admit, by the rule of all results.
pub code_admitted : (h : Host) (bs : Bytes) → (serve_replay h bs).code ≡ result_admission (length h.numbers) (length h.serials) (length h.answers)
unfolding serve_replay result_admission
code_admitted h bs = told (stateless h) (eqb (length h.answers) RESULT) h (replay_served h bs)

-- A replay in parts, as what the exported one leaves.
pub as_served : (h : Host) (bs : Bytes) (ns ss : List ℕ) (rs : Rows) (l : Log) (result : List ℕ) (n place : ℕ) → Sized ns ss
    → result ≡ result_numbers n place → replayed_by n place (table rs l (state_of ns ss)) ≡ replay_bytes bs (table_of h)
    → host ns ss rs l result ≡ replay_served h bs
as_served h bs ns ss rs l result n place z r q =
    let b = numbers_state ns ss z in
    ap {B = Host} (λ (x : List ℕ). host x ss rs l result) (sym b.0)
    ∙ ap {B = Host} (λ (x : List ℕ). host (state_numbers (state_of ns ss)) x rs l result) (sym b.1)
    ∙ ap {B = Host} (λ (x : List ℕ). host (state_numbers (state_of ns ss)) (state_serials (state_of ns ss)) rs l x) r
    ∙ ap {B = Host}
    (λ (x : Replayed). host (state_numbers x.table.state) (state_serials x.table.state) x.table.rows x.table.log (result_numbers x.no x.entry))
    q
