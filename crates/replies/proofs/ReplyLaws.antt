-- Laws of the replies' texts. Assumes nothing.
use Rattle.std.specs.Prelude.{◌≡◌, ◌∷◌, ◌<◌}
use Rattle.kit.specs.Names.{refl, [], ℕ, lt-ltb}
use Rattle.rules.specs.Rules.{Answer, Call, Rows, Log}
use Rattle.rules.specs.declared.call.Call.TheVariants.{New, Len, Find, Unioned, Join, Post, Probe, ProbeKey, TryProbe, Snapshot, Rollback, Commit, Keys, Actions, Changes}
use Rattle.words.specs.Bytes.{bytes}
use Rattle.show.specs.Shown.{Pieces, since_pieces, row_piece}
use Rattle.replies.specs.Replies.{FEED, onward, look_pieces}

-- ---- replies

-- an answer that no entries follow: that of any call but `actions`
pub none_follow : (l : Log) (call : Call) (a : Answer) → ((token : ℕ) → call ≡ Actions token → ⊥) → ◌≡◌ {A = Pieces} [] (onward l call a)
unfolding onward
none_follow l (New owner amount) a h = refl
none_follow l Len a h = refl
none_follow l (Find key) a h = refl
none_follow l (Unioned x y) a h = refl
none_follow l (Join x y) a h = refl
none_follow l (Post key owner amount) a h = refl
none_follow l (Probe key) a h = refl
none_follow l (ProbeKey key) a h = refl
none_follow l (TryProbe key) a h = refl
none_follow l Snapshot a h = refl
none_follow l (Rollback token) a h = refl
none_follow l (Commit token) a h = refl
none_follow l (Keys token) a h = refl
none_follow l (Changes token) a h = refl
none_follow l (Actions token) a h = absurd (h token refl)

pub entries_follow : (l : Log) (call : Call) (a : Answer) (token : ℕ) → call ≡ Actions token → since_pieces l a.from a.to ≡ onward l call a
unfolding onward
entries_follow l call a token e = rw e

module _ (rs : Rows) (rows key : ℕ) where
  pub a_row : key < rows → ◌≡◌ {A = Pieces} (bytes "row" ∷ row_piece rs key ∷ FEED ∷ []) (look_pieces rs rows key)
  a_row h = rw (lt-ltb key rows h)
