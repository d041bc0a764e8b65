-- Every call keeps what a table stands for, and is never answered BROKEN_TABLE or BAD_STATE; and a fresh table stands for nothing yet.
use Rattle.std.specs.Prelude.{◌≡◌, ◌∷◌}
use Rattle.kit.specs.Names.{refl, false, List, [], ℕ, zero-le, ltb, arith}
use Rattle.rules.specs.Rules.{Call, Rows, Log, Table, table, value, owner_of, fresh, head_of, said, range, find_on, unioned_on, join_on, post_on, probe_on, probe_key_on}
use Rattle.rules.specs.Rules.{try_probe, sizes_of, bad_table, call, step}
use Rattle.rules.specs.declared.call.Call.TheVariants.{New, Len, Find, Unioned, Join, Post, Probe, ProbeKey, TryProbe, Snapshot, Rollback, Commit, Keys, Actions, Changes}
use Rattle.rules.proofs.StateLaws.{good_bad}
use Rattle.groups.specs.Groups.{replay}
use Rattle.groups.specs.Track.{History, Saved, track, last_token, Orderly}
use Rattle.groups.specs.Stands.{Lends, StandsOver}
use Rattle.groups.proofs.Forest.{shows_none}
use Rattle.groups.proofs.Plans.{calm, find_planned, probe_planned, probe_key_planned, try_planned, post_planned, unioned_planned, join_planned}
use Rattle.groups.proofs.Kept.{Keeps, keeps_idle}
use Rattle.groups.proofs.RowCalls.{holds, keeps_live, keeps_one, keeps_two, keeps_new}
use Rattle.groups.proofs.TokenCalls.{Restores, busy, keeps_snapshot, keeps_rollback, rollback_restores, keeps_commit, keeps_ask}

module _ {over : ℕ → Rows} {t : Table} {h : History} (S : StandsOver over t h) where
  -- ---- any call

  keeps_call : (c : Call) → Keeps over t h c (call t c)
  unfolding call
  keeps_call (New owner amount) = keeps_new S owner amount
  keeps_call Len = keeps_idle S Len (range 0 t.state.count) refl (calm 0 refl refl)
  keeps_call (Find key) = keeps_one S (Find key) key find_on (find_planned (track h).now S.made.accepted (holds S) key)
  keeps_call (Unioned a b) = keeps_two S (Unioned a b) a b unioned_on (unioned_planned (track h).now S.made.accepted (holds S) a b)
  keeps_call (Join a b) = keeps_two S (Join a b) a b join_on (join_planned (track h).now S.made.accepted (holds S) a b)
  keeps_call (Post key owner amount) =
      keeps_one S (Post key owner amount) key (post_on (value (owner_of owner) amount))
      (post_planned (track h).now S.made.accepted (holds S) key owner amount)
  keeps_call (Probe key) = keeps_one S (Probe key) key probe_on (probe_planned (track h).now S.made.accepted (holds S) key)
  keeps_call (ProbeKey key) =
      keeps_one S (ProbeKey key) key probe_key_on (probe_key_planned (track h).now S.made.accepted (holds S) key)
  keeps_call (TryProbe key) =
      keeps_live S (TryProbe key) key (try_probe t.rows key) (λ _. try_planned (track h).now S.made.accepted (holds S) key)
  keeps_call Snapshot = keeps_snapshot S
  keeps_call (Rollback token) = keeps_rollback S token (track h).saved refl
  keeps_call (Commit token) = keeps_commit S token (track h).saved refl
  keeps_call (Keys token) = keeps_ask S (Keys token) token (λ m. range m.keys t.state.count) (λ m. refl) (λ m. calm 0 refl refl)
  keeps_call (Actions token) =
      keeps_ask S (Actions token) token (λ m. range m.log_len t.state.used) (λ m. refl) (λ m. calm 0 refl refl)
  keeps_call (Changes token) =
      keeps_ask S (Changes token) token (λ m. said (ltb m.log_len t.state.used) 0) (λ m. refl) (λ m. calm 0 refl refl)

  -- "nothing open and used not 0" is not so.
  nothing_used : (ys : List Saved) → (track h).saved ≡ ys → t.state.«open» ≡ 0 → t.state.used ≡ 0
  nothing_used [] e z = rw e at S.back
  nothing_used (x ∷ xs) e z = absurd (busy S x xs e z)

  -- The state and what is lent are not bad.
  pub not_bad : bad_table t ≡ false
  not_bad =
      let R = S.lends.row_parts in
      let L = S.lends.log_parts in
      good_bad (sizes_of t.rows t.log) (head_of t.state) (record {
        level = omega (arith, R, L, S.lends.row_limit, S.lends.log_limit);
        count = omega (arith, R, S.fits);
        used = omega (arith, L, S.log_fits);
        opened = omega (arith, S.opened, S.open_fits);
        shut = nothing_used (track h).saved refl;
      })

  pub keeps : (c : Call) → Keeps over t h c (step t c)
  unfolding step
  keeps c = rw not_bad (keeps_call c)

  pub restores : (token : ℕ) → Restores over t (step t (Rollback token))
  unfolding step call
  restores token = rw not_bad (rollback_restores S token (track h).saved refl)

-- ---- the first case: a fresh table, whatever its lent rows and entries hold, and the empty history

pub fresh_stands : (rs : Rows) (l : Log) (rows entries : ℕ) → Lends rs l rows entries → StandsOver (λ _. rs) (table rs l fresh) []
unfolding track last_token Orderly replay
fresh_stands rs l rows entries L = record {
  room = rows;
  log_room = entries;
  lends = L;
  fits = zero-le;
  log_fits = zero-le;
  marks_kept = refl;
  open_fits = zero-le;
  opened = refl;
  made = record { accepted = tt; counted = refl; shows = shows_none rs };
  back = refl;
  orderly = tt;
  serials = zero-le;
}
