-- The commands that there are: CALLS.md, in its order.
use Rattle.std.specs.Prelude.{◌∷◌, ◌-◌, ◌^◌}
use Rattle.kit.specs.Names.{Bool, true, false, cond, List, [], map, ℕ, get_or}
use Prim.Native.String.{String}
use Rattle.rules.specs.Rules.{mark}
use Rattle.rules.specs.declared.call.Call.TheVariants.{New, Len, Find, Unioned, Join, Post, Probe, ProbeKey, TryProbe, Snapshot, Rollback, Commit, Keys, Actions, Changes}
use Rattle.words.specs.Bytes.{bytes}
use Rattle.commands.specs.declared.command.Command.{Command}
use Rattle.commands.specs.declared.command.Command.TheVariants.{Error, Call, Table, Row, Live, Dump, SetRow, SetEntry, SetState, SetMark, Lend}
use Rattle.commands.specs.declared.command.Width.{Width}
use Rattle.commands.specs.declared.command.Width.TheVariants.{Short, Long, Few}
use Rattle.commands.specs.declared.command.Lengths.{Lengths}
use Rattle.commands.specs.declared.command.RowNumbers.{RowNumbers}

-- ---- widths

-- "Keys and owners are below 2^32, amounts and tokens below 2^64": `Short` are also ranks, kinds, places in the log, counts and lengths,
-- and `Long` serials, which are tokens. `Few` is a mark's place: "I from 0, the outermost, to 31".
-- the largest number of a width
abbrev pub limit : Width → ℕ
limit Short = 2 ^ 32 - 1
limit Long = 2 ^ 64 - 1
limit Few = 31

-- ---- the commands

-- a name, the widths of the numbers after it, and what they make
pub record Form : Type 0 where
  pub name : List ℕ
  pub widths : List Width
  pub makes : (ℕ → ℕ) → Command

abbrev pub form : String → List Width → ((ℕ → ℕ) → Command) → Form
form s ws f = record { name = bytes s; widths = ws; makes = f }

abbrev pub row_numbers : ℕ → ℕ → ℕ → ℕ → RowNumbers
row_numbers p r o a = record { parent = p; rank = r; owner = o; amount = a }

abbrev pub lengths : ℕ → ℕ → ℕ → ℕ → Lengths
lengths p c a l = record { parents = p; crowns = c; amounts = a; log = l }

unfoldable pub forms : List Form
forms =
    -- "Calls"
    form "new" (Short ∷ Long ∷ []) (λ n. Call (New (n 0) (n 1)))
    ∷ form "len" [] (λ n. Call Len)
    ∷ form "find" (Short ∷ []) (λ n. Call (Find (n 0)))
    ∷ form "unioned" (Short ∷ Short ∷ []) (λ n. Call (Unioned (n 0) (n 1)))
    ∷ form "join" (Short ∷ Short ∷ []) (λ n. Call (Join (n 0) (n 1)))
    ∷ form "post" (Short ∷ Short ∷ Long ∷ []) (λ n. Call (Post (n 0) (n 1) (n 2)))
    ∷ form "probe" (Short ∷ []) (λ n. Call (Probe (n 0)))
    ∷ form "probe_key" (Short ∷ []) (λ n. Call (ProbeKey (n 0)))
    ∷ form "try_probe" (Short ∷ []) (λ n. Call (TryProbe (n 0)))
    ∷ form "snapshot" [] (λ n. Call Snapshot)
    ∷ form "rollback" (Long ∷ []) (λ n. Call (Rollback (n 0)))
    ∷ form "commit" (Long ∷ []) (λ n. Call (Commit (n 0)))
    ∷ form "keys" (Long ∷ []) (λ n. Call (Keys (n 0)))
    ∷ form "actions" (Long ∷ []) (λ n. Call (Actions (n 0)))
    ∷ form "changes" (Long ∷ []) (λ n. Call (Changes (n 0)))
    -- "Looking"
    ∷ form "table" (Short ∷ Short ∷ []) (λ n. Table (n 0) (n 1))
    ∷ form "row" (Short ∷ []) (λ n. Row (n 0))
    ∷ form "live" [] (λ n. Live)
    ∷ form "dump" [] (λ n. Dump)
    -- "Damage, for tests"
    ∷ form "set_row" (Short ∷ Short ∷ Short ∷ Short ∷ Long ∷ []) (λ n. SetRow (n 0) (row_numbers (n 1) (n 2) (n 3) (n 4)))
    ∷ form "set_entry" (Short ∷ Short ∷ Short ∷ Short ∷ Short ∷ Short ∷ Long ∷ [])
    (λ n. SetEntry (n 0) (n 1) (n 2) (row_numbers (n 3) (n 4) (n 5) (n 6)))
    ∷ form "set_state" (Short ∷ Short ∷ Short ∷ Long ∷ []) (λ n. SetState (n 0) (n 1) (n 2) (n 3))
    ∷ form "set_mark" (Few ∷ Long ∷ Short ∷ Short ∷ []) (λ n. SetMark (n 0) (mark (n 1) (n 2) (n 3)))
    ∷ form "lend" (Short ∷ Short ∷ Short ∷ Short ∷ []) (λ n. Lend (lengths (n 0) (n 1) (n 2) (n 3)))
    ∷ []

-- the form at a place of the table, and one that makes nothing past its end
abbrev pub form_at : ℕ → Form
form_at i = get_or forms i (record { name = []; widths = []; makes = λ n. Error })

abbrev pub names : List (List ℕ)
names = map (λ (f : Form). f.name) forms

-- ---- the numbers of a line as the code has them

abbrev pub is_long : Width → Bool
is_long Short = false
is_long Long = true
is_long Few = false

-- the number at a place, of 64 bits where its width is `Long`, else of 32
abbrev pub number_at : List Width → List ℕ → List ℕ → ℕ → ℕ
number_at ws shorts longs i = cond (is_long (get_or ws i Short)) (get_or longs i 0) (get_or shorts i 0)

-- what a form makes of them
abbrev pub makes_of : ℕ → List ℕ → List ℕ → Command
makes_of i shorts longs = (form_at i).makes (number_at (form_at i).widths shorts longs)
