use Rattle.std.proofs.Common.{rules}
use Rattle.sdf_reader.proofs.NameLemmas.{put_escaped_behind, put_backslash, put_divider, put_other}
use Rattle.sdf_reader.proofs.names.put_byte.Goals as goal

pub returns-then-escape : goal.returns-then-escape
returns-then-escape c = rw c.if-escape.true (put_escaped_behind c.args.divider c.args.byte c.args.out.now.items c.put_escaped.new.out.items c.put_escaped.result c.put_escaped.ensures)

pub returns-then-byte-eq92 : goal.returns-then-byte-eq92
returns-then-byte-eq92 c = rw c.if-escape.false (put_backslash c.args.divider c.args.byte c.args.out.now.items c.if-byte-eq92.true)

pub returns-then-byte-divider : goal.returns-then-byte-divider
returns-then-byte-divider c = rw c.if-escape.false (put_divider c.args.divider c.args.byte c.args.out.now.items c.push.new.self.items c.if-byte-eq92.false c.if-byte-divider.true (search rules))

pub returns : goal.returns
returns c = rw c.if-escape.false (put_other c.args.divider c.args.byte c.args.out.now.items c.push-2.new.self.items c.if-byte-eq92.false c.if-byte-divider.false (search rules))
