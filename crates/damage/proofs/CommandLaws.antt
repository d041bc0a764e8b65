-- Laws of the commands: what the code leaves is what they say. Assumes nothing.
use Rattle.std.specs.Prelude.{◌≡◌, ◌∷◌, ◌+◌, ◌*◌}
use Rattle.kit.specs.Names.{List, [], ℕ, suc, min, length, length-take, ltb, arith, add-one}
use Rattle.rules.specs.Rules.{State, CROWN, ENTRY, Rows, Log, table, low_of, high_of, sizes}
use Rattle.rules.proofs.RowLaws.{number_owner}
use Rattle.commands.specs.declared.command.Command.TheVariants as command
use Rattle.commands.specs.declared.command.Lengths.{Lengths}
use Rattle.commands.specs.declared.command.RowNumbers.{RowNumbers}
use Rattle.arrays.specs.declared.reply.Reply.{Reply}
use Rattle.arrays.specs.Cut.{touched, most_rows, leaving, done_where}
use Rattle.arrays.specs.Room.{put_lent}
use Rattle.damage.specs.Commands.{changed}

-- ---- rows and entries

module _ (n : Lengths) (rs : Rows) (l : Log) (s : State) (r : RowNumbers) where
  pub row_set : (key a b c most : ℕ) (rep : Reply) (ps cs qs : List ℕ) → a ≡ min n.parents (length rs.parents)
      → b ≡ min n.crowns (length rs.crowns) → c ≡ min n.amounts (length rs.amounts) → ((log : ℕ) → most ≡ most_rows (sizes a b c log))
      → rep ≡ done_where (ltb key most) → ps ≡ put_lent n.parents rs.parents key (r.parent ∷ [])
      → cs ≡ put_lent n.crowns rs.crowns (key * CROWN) (r.rank ∷ r.owner ∷ [])
      → qs ≡ put_lent n.amounts rs.amounts key (r.amount ∷ [])
      → leaving rep n (table (record { parents = ps; crowns = cs; amounts = qs }) l s) ≡ changed n (table rs l s) (command.SetRow key r)
  unfolding changed
  row_set key a b c most rep ps cs qs ea eb ec em er ep eq es =
      rw (er, em (length l), ea, eb, ec, ep, eq, es, number_owner r.owner, add-one (key * CROWN))
      (rw (length-take n.parents rs.parents, length-take n.crowns rs.crowns, length-take n.amounts rs.amounts))

  pub entry_set : (i kind key a most low high : ℕ) (rep : Reply) (after : Log) → a ≡ min n.log (length l) → most ≡ touched a ENTRY
      → rep ≡ done_where (ltb i most) → low ≡ low_of r.amount → high ≡ high_of r.amount
      → after ≡ put_lent n.log l (i * ENTRY) (kind ∷ key ∷ r.parent ∷ r.rank ∷ r.owner ∷ low ∷ high ∷ [])
      → leaving rep n (table rs after s) ≡ changed n (table rs l s) (command.SetEntry i kind key r)
  unfolding changed
  entry_set i kind key a most low high rep after ea em er el eh e =
      let b = i * ENTRY in
      let e2 : b + 2 ≡ suc (suc b) = omega arith in
      let e3 : b + 3 ≡ suc (suc (suc b)) = omega arith in
      let e4 : b + 4 ≡ suc (suc (suc (suc b))) = omega arith in
      let e5 : b + 5 ≡ suc (suc (suc (suc (suc b)))) = omega arith in
      let e6 : b + 6 ≡ suc (suc (suc (suc (suc (suc b))))) = omega arith in
      rw (er, em, ea, e, el, eh, length-take n.log l, number_owner r.owner, add-one b, e2, e3, e4, e5, e6)
