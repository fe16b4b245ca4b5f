-- `back::put_relation` meets its contract. Assumes nothing.
use Rattle.writing.proofs.Pieces as pieces
use Rattle.back.proofs.put_relation.Goals as goal

pub put_constant-k-requires : goal.put_constant-k-requires
put_constant-k-requires c = let all =
    pieces.constant_asked c.args.bytes.now
    c.args.at c.number16-id.result
    c.args.n
    c.requires.stands c.number16-id.ensures
    c.requires.at_len_bound in record { s_value = all.0; s_len_bound = all.1 }

pub put-j-requires : goal.put-j-requires
put-j-requires c =
    let a = c.args in
    let the-pre = c.requires in
    let the-number16 = c.number16-id in
    let the-put-constant = c.put_constant-k in
    pieces.blank_asked a.bytes.now a.at the-number16.result a.n the-pre.stands the-number16.ensures the-pre.at_len_bound a.out.now
    the-put-constant.result the-put-constant.new.out the-put-constant.ensures

pub put_operator-i-requires : goal.put_operator-i-requires
put_operator-i-requires c =
    let a = c.args in
    let the-pre =
    c.requires in
    let the-number16 = c.number16-id in
    let the-put-constant = c.put_constant-k in
    let the-put = c.put-j in
    pieces.operator_asked a.bytes.now a.at the-number16.result a.n the-pre.stands the-number16.ensures the-pre.at_len_bound a.out.now
    the-put-constant.result the-put-constant.new.out the-put-constant.ensures the-put.result the-put.new.out the-put.ensures

pub put-h-requires : goal.put-h-requires
put-h-requires c =
    let a = c.args in
    let the-pre =
    c.requires in
    let the-number16 = c.number16-id in
    let the-put-constant = c.put_constant-k in
    let the-put = c.put-j in
    let the-put-operator = c.put_operator-i in
    pieces.blank_asked_2 a.bytes.now a.at the-number16.result a.n the-pre.stands the-number16.ensures the-pre.at_len_bound a.out.now
    the-put-constant.result the-put-constant.new.out the-put-constant.ensures the-put.result the-put.new.out the-put.ensures
    the-put-operator.result the-put-operator.new.out the-put-operator.ensures

pub put_item-requires : goal.put_item-requires
put_item-requires c =
    let a = c.args in
    let the-pre =
    c.requires in
    let the-number16 =
    c.number16-id in
    let the-put-constant =
    c.put_constant-k in
    let the-put = c.put-j in
    let the-put-operator = c.put_operator-i in
    let the-put2 = c.put-h in
    pieces.item_asked a.bytes.now a.at the-number16.result a.n the-pre.stands the-number16.ensures the-pre.at_len_bound a.out.now
    the-put-constant.result the-put-constant.new.out the-put-constant.ensures the-put.result the-put.new.out the-put.ensures
    the-put-operator.result the-put-operator.new.out the-put-operator.ensures the-put2.result the-put2.new.out the-put2.ensures

pub returns : goal.returns
returns c =
    let a = c.args in
    let the-pre =
    c.requires in
    let the-number16 =
    c.number16-id in
    let the-put-constant =
    c.put_constant-k in
    let the-put = c.put-j in
    let the-put-operator = c.put_operator-i in
    let the-put2 = c.put-h in
    let the-put-item = c.put_item in
    pieces.relation_put a.bytes.now a.at the-number16.result a.n the-pre.stands the-number16.ensures the-pre.at_len_bound a.out.now
    the-put-constant.result the-put-constant.new.out the-put-constant.ensures the-put.result the-put.new.out the-put.ensures
    the-put-operator.result the-put-operator.new.out the-put-operator.ensures the-put2.result the-put2.new.out the-put2.ensures
    the-put-item.result the-put-item.new.out the-put-item.ensures
