-- `back::least_width` meets its contract. Assumes nothing.
use Rattle.writing.proofs.Parts as parts
use Rattle.back.proofs.least_width.Goals as goal

pub returns-then-v-lt256 : goal.returns-then-v-lt256
returns-then-v-lt256 c = parts.least_one c.args.v c.if-v-lt256.true

pub returns-then-v-lt65536 : goal.returns-then-v-lt65536
returns-then-v-lt65536 c = parts.least_two c.args.v c.if-v-lt256.false c.if-v-lt65536.true

pub returns-else-v-lt65536 : goal.returns-else-v-lt65536
returns-else-v-lt65536 c = parts.least_four c.args.v c.if-v-lt65536.false
